-- The planned ones.
use Rattle.std.proofs.Common.{rules, tests}
use Rattle.laws.specs.Calls.{set_of}
use Rattle.call_earliest.specs.Forms.Table.{members}
use Rattle.call_earliest.proofs.members.members.Goals as goal

pub returns : goal.returns
unfolding members
returns c = rw (← c.count.ensures.is) (set_of _ _ _ _ (search rules) c.below.ensures (λ k b l e. search (rules, tests)))
