-- Those that pass.
use Rattle.std.proofs.Common.{rules, tests}
use Rattle.laws.specs.Calls.{set_of}
use Rattle.soonest.specs.Soonest.{since_locked}
use Rattle.prospect.proofs.kinds.since_locked.Goals as goal

pub returns : goal.returns
unfolding since_locked
returns c = rw (← c.count.ensures.is) (set_of _ _ _ _ (search rules) c.below.ensures (λ k b l e. search (rules, tests)))
