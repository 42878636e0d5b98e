-- The mask's low n bits, counted.
use Rattle.std.proofs.lemmas.Nat.{one_shl}
use Rattle.laws.proofs.Prelude.{arith, refl}
use Rattle.endings.proofs.Counting.{ones_masked}
use Rattle.endings.proofs.ending.ones_below.Goals as goal

pub returns : goal.returns
returns c = rw (one_shl c.args.n 64 (omega (arith, c.requires))) (ones_masked c.args.mask c.args.n _ refl)
