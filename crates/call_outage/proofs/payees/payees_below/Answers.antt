-- The payees of those below k.
use Rattle.call_outage.specs.Forms.Row.{payees_in}
use Rattle.laws.specs.Unions.{union_start, union_more, union_done}
use Rattle.call_outage.proofs.payees.payees_below.Goals as goal

pub loop-k-init : goal.loop-k-init
unfolding payees_in
loop-k-init c = union_start _

pub loop-k-preserved : goal.loop-k-preserved
unfolding payees_in
loop-k-preserved c = union_more _ _ _ _ c.loop-k.invariant c.payees_at-found.ensures

pub returns : goal.returns
unfolding payees_in
returns c = rw (← c.count-k-end.ensures.is) (union_done _ _ _ _ c.loop-k.auto.k-end c.loop-k-test.false c.loop-k.invariant)
