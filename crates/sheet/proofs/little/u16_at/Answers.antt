-- Two bytes, the lower first.
use Rattle.laws.proofs.Prelude.{refl, arith}
use Rattle.laws.specs.Little.{number_two}
use Rattle.sheet.proofs.little.u16_at.Goals as goal

pub returns : goal.returns
returns c = omega (arith, c.from_le_bytes.ensures, number_two c.args.bytes.now c.args.i _ _ refl refl)
