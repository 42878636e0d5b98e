-- The answer fits the number that C gets.
use Rattle.laws.proofs.Prelude.{arith}
use Rattle.position.specs.Answers.{packed}
use Rattle.call_ask.proofs.Asks.{asked_bounds}
use Rattle.swap.proofs.swap_ask.Goals as goal

pub overflow_mul-result : goal.overflow_mul-result
overflow_mul-result c =
    let h = asked_bounds _ _ _ _ _ c.ask-asked.ensures in
    record { fits = omega (arith, h.0) }

pub overflow_add-result : goal.overflow_add-result
overflow_add-result c =
    let h = asked_bounds _ _ _ _ _ c.ask-asked.ensures in
    record { fits = omega (arith, h.0, h.1) }

pub returns : goal.returns
unfolding packed
returns c = rw c.ask-asked.ensures
