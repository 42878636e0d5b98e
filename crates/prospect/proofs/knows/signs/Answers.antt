-- Those that pass.
use Rattle.std.proofs.Common.{rules, tests}
use Rattle.laws.specs.Calls.{set_of}
use Rattle.position.specs.Position.{slot, shared}
use Rattle.slack.specs.Beaten.{signs}
use Rattle.prospect.proofs.knows.signs.Goals as goal

pub returns : goal.returns
unfolding slot shared signs
returns c = rw (← c.count.ensures.is) (set_of _ _ _ _ (search rules) c.below.ensures (λ k b l e. search (rules, tests)))
