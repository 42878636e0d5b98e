-- By what each of them is.
use Rattle.std.proofs.Common.{rules, tests}
use Rattle.std.proofs.lemmas.Iterator.{YieldsList-from_range}
use Rattle.laws.proofs.Prelude.{refl, arith}
use Rattle.laws.proofs.Ranges.{any_of_range}
use Rattle.kept.proofs.counted.is_beaten.Goals as goal

pub returns : goal.returns
returns c = any_of_range c.args.n _ _ _ _ c.any.ensures.ran (YieldsList-from_range 0 _ _ refl (omega arith)) (λ x b q k. search (rules, tests))
