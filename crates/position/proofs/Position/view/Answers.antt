-- The view of the transactions below k.
use Rattle.position.proofs.Views.{view_start, view_more, view_done}
use Rattle.position.specs.Position.{slot}
use Rattle.laws.proofs.Prelude.{refl}
use Rattle.position.proofs.Position.view.Goals as goal

pub loop-k-init : goal.loop-k-init
loop-k-init c = view_start _ _ _ c.expiring-expiring.ensures

pub loop-k-preserved : goal.loop-k-preserved
unfolding slot
loop-k-preserved c = view_more _ _ _ _ _ _ c.loop-k.invariant c.add-v.ensures refl

pub returns : goal.returns
returns c = rw (← c.count-n.ensures.is) (view_done _ _ _ _ _ c.loop-k.auto.k-end c.loop-k-test.false c.loop-k.invariant)
