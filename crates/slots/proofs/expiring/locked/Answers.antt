-- Those below the count that have a lock.
use Rattle.std.proofs.Common.{rules, tests}
use Rattle.laws.specs.Calls.{set_of}
use Rattle.slots.specs.Forms.Expiring.{has_lock}
use Rattle.slots.proofs.expiring.locked.Goals as goal

pub returns : goal.returns
unfolding has_lock
returns c = rw (← c.count.ensures.is) (set_of _ _ _ _ (search rules) c.below.ensures (λ k b l e. search (rules, tests)))
