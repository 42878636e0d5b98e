-- Without the bit at t.
use Rattle.laws.proofs.Prelude.{removed, ◌-◌, ap, ◌∙◌, arith, bit_and, one-mul}
use lib.Pow.{shl_exact}
use Rattle.sheet.proofs.set.remove.Goals as goal

pub returns : goal.returns
unfolding removed
returns c = ap (λ x. bit_and c.args.set (4294967295 - x)) (shl_exact {a = 1} 1 c.args.t 32 (omega arith) (omega arith) ∙ one-mul _)
