-- The four ways out.
use Rattle.call_desk.proofs.Bundles.{right_empty, right_short, right_many, right_arrays, right_sum}
use Rattle.laws.proofs.Prelude.{arith}
use Rattle.call_desk.proofs.bundle.bundle_right.Goals as goal

pub returns-then-bundle-lt1 : goal.returns-then-bundle-lt1
returns-then-bundle-lt1 c = right_empty _ (omega (arith, c.if-bundle-lt1.true))

pub returns-then-bundle-journals : goal.returns-then-bundle-journals
returns-then-bundle-journals c = right_short _ _ c.swaps-n.ensures.is (omega (arith, c.if-bundle-lt1.false)) (omega (arith, c.if-bundle-journals.true))

pub returns-then-n-gt64 : goal.returns-then-n-gt64
returns-then-n-gt64 c = right_many _ _ c.swaps-n.ensures.is (omega (arith, c.if-bundle-lt1.false)) (omega (arith, c.if-bundle-journals.false)) (omega (arith, c.if-n-gt64.true))

pub lengths_sum-requires : goal.lengths_sum-requires
lengths_sum-requires c = right_arrays _ _ c.swaps-n.ensures.is (omega (arith, c.if-bundle-lt1.false)) (omega (arith, c.if-bundle-journals.false)) (omega (arith, c.if-n-gt64.false))

pub returns : goal.returns
returns c = right_sum _ _ c.swaps-n.ensures.is (omega (arith, c.if-bundle-lt1.false)) _ (omega (arith, c.if-bundle-journals.false)) (omega (arith, c.if-n-gt64.false)) c.lengths_sum.ensures
