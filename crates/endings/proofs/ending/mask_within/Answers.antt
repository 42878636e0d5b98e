-- Below the power of two; all 32 bits are.
use Rattle.laws.proofs.Prelude.{◌≡◌, sym, ap, ◌∙◌, ltb, lt-ltb, rules, arith, one-mul}
use lib.Pow.{shl_exact}
use Rattle.endings.proofs.ending.mask_within.Goals as goal

pub returns-then-n-lt32 : goal.returns-then-n-lt32
returns-then-n-lt32 c = ap (λ x. ltb c.args.mask x) (shl_exact {a = 1} 1 c.args.n 32 (omega arith) (omega arith) ∙ one-mul _)

pub returns : goal.returns
returns c = let e : c.args.n ≡ 32 = omega (arith, c.if-n-lt32.false, c.requires) in rw e (sym (lt-ltb c.args.mask 4294967296 (search rules)))
