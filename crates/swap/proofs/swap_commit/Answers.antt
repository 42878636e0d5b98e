-- The answer fits the number that C gets.
use Rattle.position.specs.Answers.{packed}
use Rattle.call_ask.proofs.Commits.{commit_below}
use Rattle.laws.proofs.Prelude.{arith}
use Rattle.swap.proofs.swap_commit.Goals as goal

pub overflow_mul-result : goal.overflow_mul-result
overflow_mul-result c = record { fits = omega (arith, c.commit.ensures.value, commit_below c.args.sheet.now c.args.setup.now c.args.step.now c.args.count c.args.buffer.now c.args.size) }

pub returns : goal.returns
unfolding packed
returns c = record { value = omega (arith, c.commit.ensures.value); buffer_after = c.commit.ensures.buffer_after }
