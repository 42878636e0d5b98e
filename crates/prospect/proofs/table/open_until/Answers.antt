-- By the two sets.
use Rattle.prospect.specs.Forms.Tables.{open_until}
use Rattle.prospect.proofs.table.open_until.Goals as goal

pub returns-then-has : goal.returns-then-has
unfolding open_until
returns-then-has c = rw (← c.has.ensures, c.if-has.true)

pub returns-then-has-2 : goal.returns-then-has-2
unfolding open_until
returns-then-has-2 c = rw (← c.has.ensures, c.if-has.false, ← c.has-2.ensures, c.if-has-2.true) c.late_until.ensures

pub returns : goal.returns
unfolding open_until
returns c = rw (← c.has.ensures, c.if-has.false, ← c.has-2.ensures, c.if-has-2.false)
