-- Looked for above the transaction itself, since children have higher numbers.
use Rattle.std.proofs.Common.{rules, tests}
use Rattle.laws.proofs.Prelude.{◌∙◌}
use Rattle.slots.proofs.Children.{no_child_before, child_among}
use Rattle.slots.proofs.Walks.{calls_members, any_members}
use Rattle.slots.proofs.conflict.child_in.Goals as goal

pub any-requires-clause-callable : goal.any-requires-clause-callable
any-requires-clause-callable c = calls_members _ _ _ (search rules) c.members_from.ensures (λ x q k. search rules) (λ x l b. search rules)

pub returns : goal.returns
returns c =
    rw (← c.count-n.ensures.is)
    (any_members _ _ _ _ _ _ _ (search rules) (search rules) c.members_from.ensures (no_child_before _ _ _ c.requires.checked c.requires.up_bound) c.any.ensures.ran (λ x b q k. search (rules, tests))
    ∙ child_among _ _ _ _)
