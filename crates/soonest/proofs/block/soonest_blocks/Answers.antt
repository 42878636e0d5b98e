-- The soonest blocks of the transactions before t.
use Rattle.laws.proofs.Prelude.{refl, rules, arith}
use Rattle.position.specs.Position.{slot, block_of}
use Rattle.soonest.proofs.Tables.{filled_start, filled_more, filled_done, soonest_above_lem, soonest_next}
use Rattle.soonest.proofs.block.soonest_blocks.Goals as goal

pub loop-t-init : goal.loop-t-init
loop-t-init c = filled_start _ _ refl

pub soonest_over-requires : goal.soonest_over-requires
soonest_over-requires c =
    let h = (soonest_above_lem _ _ _ _ _ _ c.loop-t.invariant _ _ (omega arith) c.above-e.ensures).small in
    search rules

pub loop-t-preserved : goal.loop-t-preserved
unfolding block_of slot
loop-t-preserved c = filled_more _ _ _ _ c.loop-t.invariant (search rules) (soonest_next _ _ _ _ _ _ _ _ refl (soonest_above_lem _ _ _ _ _ _ c.loop-t.invariant _ _ (omega arith) c.above-e.ensures) c.soonest_over.ensures)

pub returns : goal.returns
returns c = filled_done _ _ _ _ (omega (arith, c.loop-t-test.false, c.count-n.ensures.is)) c.loop-t.invariant
