-- By the slot of each.
use Rattle.laws.proofs.Prelude.{rules}
use Rattle.laws.specs.Calls.{set_of}
use Rattle.position.proofs.Rules.{slot}
use Rattle.attainable.proofs.read.waits.Goals as goal

pub returns : goal.returns
unfolding slot
returns c = rw (← c.count.ensures.is) (set_of _ _ _ _ (search rules) c.below.ensures (λ k b l e. search rules))
