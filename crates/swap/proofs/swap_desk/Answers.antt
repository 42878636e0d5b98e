-- The answer fits the number that C gets.
use Rattle.position.specs.Answers.{packed}
use Rattle.call_desk.proofs.Desks.{desk_below}
use Rattle.laws.proofs.Prelude.{arith}
use Rattle.swap.proofs.swap_desk.Goals as goal

pub overflow_mul-result : goal.overflow_mul-result
overflow_mul-result c = record { fits = omega (arith, c.desk.ensures.value, desk_below c.args.sheet.now c.args.bundle.now c.args.out.now) }

pub returns : goal.returns
unfolding packed
returns c = record { value = omega (arith, c.desk.ensures.value); out_after = c.desk.ensures.out_after }
