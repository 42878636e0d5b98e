-- One after the other.
use Rattle.attainable.specs.Forms.Round.{meets_one}
use Rattle.attainable.proofs.round.meets_one.Goals as goal

pub returns-then-meets : goal.returns-then-meets
unfolding meets_one
returns-then-meets c = simp (← c.meets.ensures, c.if-meets.true)

pub returns-then-meets-2 : goal.returns-then-meets-2
unfolding meets_one
returns-then-meets-2 c = simp (← c.meets.ensures, c.if-meets.false, ← c.meets-2.ensures, c.if-meets-2.true)

pub returns-then-meets-3 : goal.returns-then-meets-3
unfolding meets_one
returns-then-meets-3 c = simp (← c.meets.ensures, c.if-meets.false, ← c.meets-2.ensures, c.if-meets-2.false, ← c.meets-3.ensures, c.if-meets-3.true)

pub returns : goal.returns
unfolding meets_one
returns c = simp (← c.meets.ensures, c.if-meets.false, ← c.meets-2.ensures, c.if-meets-2.false, ← c.meets-3.ensures, c.if-meets-3.false, ← c.meets-4.ensures)
