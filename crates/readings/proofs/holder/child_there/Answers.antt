-- A child of t, and a member of the set.
use Rattle.laws.proofs.Prelude.{tests}
use Rattle.readings.proofs.holder.child_there.Goals as goal

pub returns-then-parent-t : goal.returns-then-parent-t
returns-then-parent-t c = simp (tests, ← c.parent.ensures.is, c.if-parent-t.true, ← c.has.ensures)

pub returns : goal.returns
returns c = simp (tests, ← c.parent.ensures.is, c.if-parent-t.false)
