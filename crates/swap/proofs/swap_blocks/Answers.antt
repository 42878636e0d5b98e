-- The refusal is small, so the product fits.
use Rattle.laws.proofs.Prelude.{rules, arith}
use Rattle.position.specs.Answers.{packed}
use Rattle.call_blocks.proofs.Tested.{refusal_below}
use Rattle.swap.proofs.swap_blocks.Goals as goal

pub overflow_mul-result : goal.overflow_mul-result
overflow_mul-result c = record { fits = omega (arith, c.blocks-2.ensures, refusal_below c.args.sheet.now c.args.setup.now c.args.list.now) }

pub returns : goal.returns
unfolding packed
returns c = search rules
