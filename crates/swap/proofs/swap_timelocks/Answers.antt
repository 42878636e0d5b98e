-- The answer fits the number that C gets.
use Rattle.position.specs.Answers.{packed}
use Rattle.call_timelocks.proofs.Answers.{timelocks_below}
use Rattle.laws.proofs.Prelude.{arith}
use Rattle.swap.proofs.swap_timelocks.Goals as goal

pub overflow_mul-result : goal.overflow_mul-result
overflow_mul-result c = record { fits = omega (arith, c.timelocks.ensures.value, timelocks_below c.args.sheet.now c.args.setup.now c.args.base c.args.out.now) }

pub returns : goal.returns
unfolding packed
returns c = record { value = omega (arith, c.timelocks.ensures.value); out_after = c.timelocks.ensures.out_after }
