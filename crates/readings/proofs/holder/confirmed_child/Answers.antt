-- Some child of t is in the set.
use Rattle.std.proofs.Common.{rules, tests}
use Rattle.std.proofs.lemmas.Iterator.{YieldsList-from_range}
use Rattle.laws.proofs.Prelude.{refl, arith}
use Rattle.laws.proofs.Ranges.{any_of_range}
use Rattle.readings.specs.Holder.{confirmed_child}
use Rattle.readings.proofs.holder.confirmed_child.Goals as goal

pub returns : goal.returns
unfolding confirmed_child
returns c = rw (← c.count.ensures.is) (any_of_range c.count.result _ _ _ _ c.any.ensures.ran (YieldsList-from_range 0 _ _ refl (omega arith)) (λ x b q k. search (rules, tests)))
