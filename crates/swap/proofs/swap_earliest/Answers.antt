-- The answer fits the number that C gets.
use Rattle.laws.proofs.Prelude.{arith}
use Rattle.position.specs.Answers.{packed}
use Rattle.call_earliest.proofs.Answers.{planned_bounds}
use Rattle.swap.proofs.swap_earliest.Goals as goal

pub overflow_mul-result : goal.overflow_mul-result
overflow_mul-result c = let h = planned_bounds _ _ _ _ _ _ _ _ (c.earliest-planned.ensures.refusal_value, (c.earliest-planned.ensures.count_value, (c.earliest-planned.ensures.out_after))) in record { fits = omega (arith, h.0) }

pub overflow_add-result : goal.overflow_add-result
overflow_add-result c = let h = planned_bounds _ _ _ _ _ _ _ _ (c.earliest-planned.ensures.refusal_value, (c.earliest-planned.ensures.count_value, (c.earliest-planned.ensures.out_after))) in record { fits = omega (arith, h.0, h.1) }

pub returns : goal.returns
unfolding packed
returns c = record { value = rw (c.earliest-planned.ensures.refusal_value, c.earliest-planned.ensures.count_value); out_after = c.earliest-planned.ensures.out_after }
