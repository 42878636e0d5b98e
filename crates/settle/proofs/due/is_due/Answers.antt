-- By the deadline.
use Rattle.settle.specs.Forms.Thrown.{is_due}
use Rattle.settle.proofs.due.is_due.Goals as goal

pub returns-then-has : goal.returns-then-has
unfolding is_due
returns-then-has c = simp (← c.has.ensures, c.if-has.true, ← c.deadline_in.ensures.is, ← c.from.ensures)

pub returns : goal.returns
unfolding is_due
returns c = simp (← c.has.ensures, c.if-has.false)
