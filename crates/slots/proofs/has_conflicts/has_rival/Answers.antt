-- Looked for after the parent.
use Rattle.std.proofs.Common.{rules, tests}
use Rattle.std.proofs.lemmas.Iterator.{YieldsList-from_range}
use Rattle.std.proofs.lemmas.Iterator.Search.{any_from_yields_List}
use Rattle.laws.proofs.Prelude.{refl, ◌∙◌}
use Rattle.slots.proofs.OtherRivals.{other_after}
use Rattle.slots.proofs.has_conflicts.has_rival.Goals as goal

pub returns : goal.returns
returns c =
    any_from_yields_List _ _ _ _ c.any.ensures.ran (YieldsList-from_range _ _ _ refl refl) (λ x b q k. search (rules, tests))
    ∙ other_after _ _ _ c.parent-up.ensures.is c.requires.checked c.requires.t_bound _ c.count-n.ensures.is
