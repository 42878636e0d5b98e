-- The sum of the lengths before i.
use Rattle.laws.proofs.Prelude.{rules, arith, sum_start, sum_more, sum_done}
use Rattle.call_desk.proofs.Bundles.{arrays_some}
use Rattle.call_desk.proofs.bundle.lengths_sum.Goals as goal

pub swaps-i-end-requires : goal.swaps-i-end-requires
swaps-i-end-requires c = arrays_some _ c.requires

pub loop-i-init : goal.loop-i-init
loop-i-init c = (search rules, sum_start _)

pub length_of-sum-requires : goal.length_of-sum-requires
length_of-sum-requires c = record { arrays = c.requires; i_bound = omega (arith, c.loop-i-test.true, c.swaps-i-end.ensures.is) }

pub loop-i-preserved : goal.loop-i-preserved
loop-i-preserved c = (omega (arith, c.loop-i.invariant.0, c.length_of-sum.ensures.small), sum_more _ _ _ _ c.loop-i.invariant.1 c.length_of-sum.ensures.is)

pub returns : goal.returns
returns c = rw (← c.swaps-i-end.ensures.is) (sum_done _ _ _ _ c.loop-i.auto.i-end c.loop-i-test.false c.loop-i.invariant.1)
