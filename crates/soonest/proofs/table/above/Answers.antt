-- By the parent's number.
use Rattle.laws.proofs.Prelude.{tests}
use Rattle.soonest.specs.Forms.Table.{table_above}
use Rattle.soonest.proofs.table.above.Goals as goal

pub returns-then-up-t : goal.returns-then-up-t
unfolding table_above
returns-then-up-t c = simp (tests, ← c.parent-up.ensures.is, c.if-up-t.true)

pub returns : goal.returns
unfolding table_above
returns c = simp (tests, ← c.parent-up.ensures.is, c.if-up-t.false)
