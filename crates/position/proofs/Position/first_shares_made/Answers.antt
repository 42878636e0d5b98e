-- Each of them has the party's mark.
use Rattle.std.proofs.Common.{rules, tests}
use Rattle.laws.proofs.Prelude.{all_start, ◌∙◌}
use Rattle.slots.proofs.Walks.{calls_members, all_members}
use Rattle.position.specs.Position.{slot, marked}
use Rattle.position.proofs.FirstSets.{made_all}
use Rattle.position.proofs.Position.first_shares_made.Goals as goal

pub all-requires-clause-callable : goal.all-requires-clause-callable
all-requires-clause-callable c = calls_members _ _ _ (search rules) c.members.ensures (λ x q k. search rules) (λ x l b. search rules)

pub returns : goal.returns
unfolding marked slot
returns c =
    all_members _ _ _ _ _ _ _ (search rules) (search rules) c.members.ensures (all_start _) c.all.ensures.ran (λ x b q k. search (rules, tests))
    ∙ made_all _ _ _ c.first_shares-set.ensures
