-- The set of those that go there.
use Rattle.std.proofs.Common.{rules, tests}
use Rattle.laws.specs.Calls.{set_of}
use Rattle.readings.specs.Forms.Context.{goes_set}
use Rattle.readings.proofs.open.goes_set.Goals as goal

pub returns : goal.returns
unfolding goes_set
returns c = rw (← c.count-n.ensures.is) (set_of _ _ _ _ (search rules) c.below.ensures (λ k b l e. search (rules, tests)))
