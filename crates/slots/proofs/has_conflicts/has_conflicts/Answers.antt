-- A member with a rival but itself.
use Rattle.std.proofs.Common.{rules, tests}
use Rattle.laws.proofs.Prelude.{any_start}
use Rattle.slots.proofs.Walks.{calls_members, any_members}
use Rattle.slots.specs.Forms.HasConflicts.{has_conflicts_in}
use Rattle.slots.proofs.has_conflicts.has_conflicts.Goals as goal

pub any-requires-clause-callable : goal.any-requires-clause-callable
any-requires-clause-callable c = calls_members _ _ _ (search rules) c.members.ensures (λ x q k. search rules) (λ x l b. search rules)

pub returns : goal.returns
unfolding has_conflicts_in
returns c =
    rw (← c.count.ensures.is)
    (any_members _ _ _ _ _ _ _ (search rules) (search rules) c.members.ensures (any_start _) c.any.ensures.ran (λ x b q k. search (rules, tests)))
