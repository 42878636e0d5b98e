-- With the bit at t, or as it was.
use Rattle.laws.proofs.Prelude.{joined, ap, ◌∙◌, arith, bit_or, one-mul}
use lib.Pow.{shl_exact}
use Rattle.sheet.proofs.set.join.Goals as goal

pub returns-then-on : goal.returns-then-on
unfolding joined
returns-then-on c = rw c.if-on.true (ap (λ x. bit_or c.args.set x) (shl_exact {a = 1} 1 c.args.t 32 (omega arith) (omega arith) ∙ one-mul _))

pub returns-else-on : goal.returns-else-on
unfolding joined
returns-else-on c = rw c.if-on.false
