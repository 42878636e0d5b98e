-- In the set, with its parent.
use Rattle.attainable.proofs.round.reaches.Goals as goal

pub returns-then-has : goal.returns-then-has
returns-then-has c = simp (← c.has.ensures, c.if-has.true, c.parent_there.ensures)

pub returns : goal.returns
returns c = simp (← c.has.ensures, c.if-has.false)
