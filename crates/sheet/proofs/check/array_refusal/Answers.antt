-- The first of the rules 5 to 8 that fails.
use Rattle.std.proofs.Common.{rules, tests}
use Rattle.std.proofs.lemmas.Iterator.{YieldsList-from_range}
use Rattle.std.proofs.lemmas.Result.{err_from_is_err_and}
use Rattle.laws.proofs.Prelude.{refl, arith}
use Rattle.laws.proofs.Ranges.{all_of_range}
use Rattle.sheet.specs.Check.{array_tests}
use Rattle.sheet.proofs.Refusing.{stops, goes, last}
use Rattle.sheet.proofs.check.array_refusal.Goals as goal

pub returns-in_err-require : goal.returns-in_err-require
unfolding array_tests
returns-in_err-require c =
    stops _ _ _ _ _ c.in_err-require.ensures (rw (← c.count-n.ensures.is) (all_of_range c.count-n.result _ _ _ _ c.all.ensures.ran (YieldsList-from_range 0 _ _ refl (omega arith)) (λ x b q k. search (rules, tests)))) (err_from_is_err_and _ c.from_residual.ensures.1)

pub returns-in_err-require-2 : goal.returns-in_err-require-2
unfolding array_tests
returns-in_err-require-2 c =
    goes _ _ _ _ c.in_ok-require.ensures (rw (← c.count-n.ensures.is) (all_of_range c.count-n.result _ _ _ _ c.all.ensures.ran (YieldsList-from_range 0 _ _ refl (omega arith)) (λ x b q k. search (rules, tests))))
    (stops _ _ _ _ _ c.in_err-require-2.ensures (rw (← c.count-n.ensures.is) (all_of_range c.count-n.result _ _ _ _ c.all-2.ensures.ran (YieldsList-from_range 0 _ _ refl (omega arith)) (λ x b q k. search (rules, tests)))) (err_from_is_err_and _ c.from_residual-in_err-require-2.ensures.1))

pub returns-in_err-require-3 : goal.returns-in_err-require-3
unfolding array_tests
returns-in_err-require-3 c =
    goes _ _ _ _ c.in_ok-require.ensures (rw (← c.count-n.ensures.is) (all_of_range c.count-n.result _ _ _ _ c.all.ensures.ran (YieldsList-from_range 0 _ _ refl (omega arith)) (λ x b q k. search (rules, tests))))
    (goes _ _ _ _ c.in_ok-require-2.ensures (rw (← c.count-n.ensures.is) (all_of_range c.count-n.result _ _ _ _ c.all-2.ensures.ran (YieldsList-from_range 0 _ _ refl (omega arith)) (λ x b q k. search (rules, tests))))
    (stops _ _ _ _ _ c.in_err-require-3.ensures (rw (← c.count-n.ensures.is) (all_of_range c.count-n.result _ _ _ _ c.all-3.ensures.ran (YieldsList-from_range 0 _ _ refl (omega arith)) (λ x b q k. search (rules, tests)))) (err_from_is_err_and _ c.from_residual-in_err-require-3.ensures.1)))

pub returns : goal.returns
unfolding array_tests
returns c =
    goes _ _ _ _ c.in_ok-require.ensures (rw (← c.count-n.ensures.is) (all_of_range c.count-n.result _ _ _ _ c.all.ensures.ran (YieldsList-from_range 0 _ _ refl (omega arith)) (λ x b q k. search (rules, tests))))
    (goes _ _ _ _ c.in_ok-require-2.ensures (rw (← c.count-n.ensures.is) (all_of_range c.count-n.result _ _ _ _ c.all-2.ensures.ran (YieldsList-from_range 0 _ _ refl (omega arith)) (λ x b q k. search (rules, tests))))
    (goes _ _ _ _ c.in_ok-require-3.ensures (rw (← c.count-n.ensures.is) (all_of_range c.count-n.result _ _ _ _ c.all-3.ensures.ran (YieldsList-from_range 0 _ _ refl (omega arith)) (λ x b q k. search (rules, tests))))
    (last _ _ _ _ c.require-4.ensures (rw (← c.count-n.ensures.is) (all_of_range c.count-n.result _ _ _ _ c.all-4.ensures.ran (YieldsList-from_range 0 _ _ refl (omega arith)) (λ x b q k. search (rules, tests)))))))
