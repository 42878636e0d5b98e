-- The answer fits the number that C gets.
use Rattle.laws.proofs.Prelude.{arith}
use Rattle.position.specs.Answers.{packed}
use Rattle.call_shrink.proofs.Answering.{shrunk_bounds}
use Rattle.swap.proofs.swap_shrink.Goals as goal

pub overflow_mul-result : goal.overflow_mul-result
overflow_mul-result c = let h = shrunk_bounds _ _ _ _ _ _ _ (c.shrink-shrunk.ensures.refusal_value, (c.shrink-shrunk.ensures.count_value, (c.shrink-shrunk.ensures.out_after))) in record { fits = omega (arith, h.0) }

pub overflow_add-result : goal.overflow_add-result
overflow_add-result c = let h = shrunk_bounds _ _ _ _ _ _ _ (c.shrink-shrunk.ensures.refusal_value, (c.shrink-shrunk.ensures.count_value, (c.shrink-shrunk.ensures.out_after))) in record { fits = omega (arith, h.0, h.1) }

pub returns : goal.returns
unfolding packed
returns c = record { value = rw (c.shrink-shrunk.ensures.refusal_value, c.shrink-shrunk.ensures.count_value); out_after = c.shrink-shrunk.ensures.out_after }
