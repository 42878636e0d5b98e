-- The sum over the sets before this one.
use Rattle.output.specs.Forms.Emitted.{open_count}
use Rattle.output.proofs.Lengths.{count_bound}
use Rattle.laws.proofs.Prelude.{sum_start, sum_more, sum_done, ℕ, ◌+◌, ◌≡◌, ◌∙◌, rules, arith, ap₂}
use Rattle.laws.specs.Ones.{bits_short, bits_low}
use native.Mathlib.Nat.{mod-lt}
use Rattle.output.proofs.open.open_count.Goals as goal

pub loop-set-init : goal.loop-set-init
loop-set-init c = (search rules, sum_start _)

pub loop-set-preserved : goal.loop-set-preserved
loop-set-preserved c = (omega (arith, c.loop-set.invariant.0, c.ones-sum.ensures.small), sum_more _ _ _ _ c.loop-set.invariant.1 c.ones-sum.ensures.is)

pub returns : goal.returns
unfolding open_count
returns c =
    let is : c.loop-set.sum + c.ones.result ≡ open_count c.args.below c.args.last =
    ap₂ (λ (x y : ℕ). x + y)
    (sum_done _ _ _ _ c.loop-set.auto.set-index-end c.loop-set-test.false c.loop-set.invariant.1)
    (c.ones.ensures.is ∙ bits_short 28 32 _ (omega arith) (mod-lt c.args.last (omega arith)) ∙ bits_low 28 c.args.last)
    in
    record { is = is; small = omega (arith, is, count_bound c.args.below c.args.last) }
