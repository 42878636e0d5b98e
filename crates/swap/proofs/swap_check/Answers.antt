-- The refusal is small, so the product fits.
use Rattle.laws.proofs.Prelude.{rules, arith}
use Rattle.sheet.proofs.Theorems.{sheet_refusal_below}
use Rattle.position.specs.Answers.{packed}
use Rattle.swap.proofs.swap_check.Goals as goal

pub overflow_mul-result : goal.overflow_mul-result
overflow_mul-result c = record { fits = omega (arith, c.sheet_refusal.ensures, sheet_refusal_below c.args.sheet.now) }

pub returns : goal.returns
unfolding packed
returns c = search rules
