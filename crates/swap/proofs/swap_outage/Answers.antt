-- The answer fits the number that C gets.
use Rattle.position.specs.Answers.{packed}
use Rattle.call_outage.proofs.OutageAnswers.{outage_below}
use Rattle.laws.proofs.Prelude.{arith}
use Rattle.swap.proofs.swap_outage.Goals as goal

pub overflow_mul-result : goal.overflow_mul-result
overflow_mul-result c = record { fits = omega (arith, c.outage.ensures.value, outage_below c.args.sheet.now c.args.setup.now c.args.journal.now c.args.blocks c.args.out.now) }

pub returns : goal.returns
unfolding packed
returns c = record { value = omega (arith, c.outage.ensures.value); out_after = c.outage.ensures.out_after }
