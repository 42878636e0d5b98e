-- By what each of them is.
use Rattle.std.proofs.Common.{rules, tests}
use Rattle.std.proofs.lemmas.Iterator.{YieldsList-from_range}
use Rattle.laws.proofs.Prelude.{refl, arith}
use Rattle.laws.proofs.Ranges.{any_of_range}
use Rattle.settle.proofs.thrown.is_thrown.Goals as goal

pub returns : goal.returns
returns c = rw (← c.count.ensures.is) (any_of_range c.count.result _ _ _ _ c.any.ensures.ran (YieldsList-from_range 0 _ _ refl (omega arith)) (λ x b q k. search (rules, tests)))
