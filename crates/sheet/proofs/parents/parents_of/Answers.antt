-- The parents of the members below k.
use Rattle.sheet.proofs.ParentSets.{parents_start, parents_more, parents_done}
use Rattle.sheet.proofs.parents.parents_of.Goals as goal

pub loop-k-init : goal.loop-k-init
loop-k-init c = parents_start _ _

pub loop-k-preserved : goal.loop-k-preserved
loop-k-preserved c = parents_more _ _ _ _ _ c.loop-k.invariant c.with_parent-parents.ensures

pub returns : goal.returns
returns c = rw (← c.count-k-end.ensures.is) (parents_done _ _ _ _ _ c.loop-k.auto.k-end c.loop-k-test.false c.loop-k.invariant)
