-- A shift of 1 is a power of two.
use Rattle.laws.proofs.Prelude.{◌∙◌, arith, one-mul}
use lib.Pow.{shl_exact}
use Rattle.sheet.proofs.check.limit.Goals as goal

pub returns : goal.returns
returns c = shl_exact {a = 1} 1 c.args.bits 64 (omega arith) (omega arith) ∙ one-mul _
