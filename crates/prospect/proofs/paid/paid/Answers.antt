-- One of the range has.
use Rattle.std.proofs.Common.{rules, tests}
use Rattle.std.proofs.lemmas.Iterator.{YieldsList-from_range}
use Rattle.laws.proofs.Prelude.{refl, arith}
use Rattle.laws.proofs.Ranges.{any_of_range}
use Rattle.position.specs.Position.{slot, block_of, is_confirmed, confirmed_to}
use Rattle.slack.specs.Kept.{paid}
use Rattle.prospect.proofs.paid.paid.Goals as goal

pub returns : goal.returns
unfolding paid slot block_of is_confirmed confirmed_to
returns c = rw (← c.count.ensures.is) (any_of_range c.count.result _ _ _ _ c.any.ensures.ran (YieldsList-from_range 0 _ _ refl (omega arith)) (λ x b q k. search (rules, tests)))
