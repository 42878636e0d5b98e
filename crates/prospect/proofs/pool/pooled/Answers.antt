-- Those that pass.
use Rattle.std.proofs.Common.{rules, tests}
use Rattle.laws.specs.Calls.{set_of}
use Rattle.position.specs.Position.{slot, in_pool, pool_to}
use Rattle.slack.specs.Beaten.{pooled}
use Rattle.prospect.proofs.pool.pooled.Goals as goal

pub returns : goal.returns
unfolding slot in_pool pool_to pooled
returns c = rw (← c.count.ensures.is) (set_of _ _ _ _ (search rules) c.below.ensures (λ k b l e. search (rules, tests)))
