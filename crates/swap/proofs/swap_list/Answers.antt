-- The answer fits the number that C gets.
use Rattle.laws.proofs.Prelude.{arith}
use Rattle.position.specs.Answers.{packed}
use Rattle.call_list.proofs.Lists.{listed_bounds}
use Rattle.swap.proofs.swap_list.Goals as goal

pub overflow_mul-result : goal.overflow_mul-result
overflow_mul-result c = let h = listed_bounds _ _ _ _ _ _ _ (c.list-listed.ensures.refusal_value, (c.list-listed.ensures.count_value, (c.list-listed.ensures.out_after))) in record { fits = omega (arith, h.0) }

pub overflow_add-result : goal.overflow_add-result
overflow_add-result c = let h = listed_bounds _ _ _ _ _ _ _ (c.list-listed.ensures.refusal_value, (c.list-listed.ensures.count_value, (c.list-listed.ensures.out_after))) in record { fits = omega (arith, h.0, h.1) }

pub returns : goal.returns
unfolding packed
returns c = record { value = rw (c.list-listed.ensures.refusal_value, c.list-listed.ensures.count_value); out_after = c.list-listed.ensures.out_after }
