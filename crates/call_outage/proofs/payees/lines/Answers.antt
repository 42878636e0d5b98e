-- The lines of the transactions before t.
use Rattle.laws.proofs.Prelude.{refl, rules, arith}
use Rattle.soonest.proofs.Tables.{filled_start, filled_more, filled_done}
use Rattle.call_outage.proofs.RowViews.{line_next}
use Rattle.call_outage.proofs.payees.lines.Goals as goal

pub loop-t-init : goal.loop-t-init
loop-t-init c = filled_start _ _ refl

pub loop-t-preserved : goal.loop-t-preserved
loop-t-preserved c = filled_more _ _ _ _ c.loop-t.invariant (search rules) (line_next _ _ _ _ _ c.loop-t.invariant c.above.ensures c.join.ensures)

pub returns : goal.returns
returns c = filled_done _ _ _ _ (omega (arith, c.loop-t-test.false, c.count-t-end.ensures.is)) c.loop-t.invariant
