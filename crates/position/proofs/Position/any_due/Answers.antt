-- A member that is due.
use Rattle.std.proofs.Common.{rules, tests}
use Rattle.laws.proofs.Prelude.{any_start}
use Rattle.slots.proofs.Walks.{calls_members, any_members}
use Rattle.position.specs.Forms.Owed.{due_in}
use Rattle.position.proofs.Position.any_due.Goals as goal

pub any-requires-clause-callable : goal.any-requires-clause-callable
any-requires-clause-callable c = calls_members _ _ _ (search rules) c.members.ensures (λ x q k. search rules) (λ x l b. search rules)

pub returns : goal.returns
unfolding due_in
returns c =
    rw (← c.count-n.ensures.is)
    (any_members _ _ _ _ _ _ _ (search rules) (search rules) c.members.ensures (any_start _) c.any.ensures.ran (λ x b q k. search (rules, tests)))
