-- 26, then 27.
use Rattle.std.proofs.lemmas.Result.{err_from_is_err_and}
use Rattle.std.proofs.Common.{rules, tests}
use Rattle.std.proofs.lemmas.Iterator.{YieldsList-from_range}
use Rattle.laws.proofs.Prelude.{refl, arith}
use Rattle.laws.proofs.Ranges.{all_of_range}
use Rattle.call_timelocks.specs.Limits.{limit_tests}
use Rattle.sheet.proofs.Refusing.{stops, goes, last}
use Rattle.call_timelocks.proofs.limits.limit_refusal.Goals as goal

pub returns-in_err-require : goal.returns-in_err-require
unfolding limit_tests
returns-in_err-require c =
    stops _ _ _ _ _ c.in_err-require.ensures (rw (← c.count-n.ensures.is) (all_of_range c.count-n.result _ _ _ _ c.all.ensures.ran (YieldsList-from_range 0 _ _ refl (omega arith)) (λ x b q k. search (rules, tests)))) (err_from_is_err_and _ c.from_residual.ensures.1)

pub returns : goal.returns
unfolding limit_tests
returns c =
    goes _ _ _ _ c.in_ok-require.ensures (rw (← c.count-n.ensures.is) (all_of_range c.count-n.result _ _ _ _ c.all.ensures.ran (YieldsList-from_range 0 _ _ refl (omega arith)) (λ x b q k. search (rules, tests))))
    (last _ _ _ _ c.require-2.ensures (rw (← c.count-n.ensures.is) (all_of_range c.count-n.result _ _ _ _ c.all-2.ensures.ran (YieldsList-from_range 0 _ _ refl (omega arith)) (λ x b q k. search (rules, tests)))))
