-- Some party has them.
use Rattle.std.proofs.Common.{rules, tests}
use Rattle.std.proofs.lemmas.Iterator.{YieldsList-from_range}
use Rattle.laws.proofs.Prelude.{refl, arith}
use Rattle.laws.proofs.Ranges.{any_of_range}
use Rattle.dated.proofs.opens.at_hand_of_some.Goals as goal

pub returns : goal.returns
returns c = rw (← c.parties-n.ensures.is) (any_of_range c.parties-n.result _ _ _ _ c.any.ensures.ran (YieldsList-from_range 0 _ _ refl (omega arith)) (λ x b q k. search (rules, tests)))
