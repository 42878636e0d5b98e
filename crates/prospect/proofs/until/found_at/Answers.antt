-- From what can come.
use Rattle.laws.proofs.Prelude.{◌∙◌}
use Rattle.prospect.proofs.Lasting.{lasts_found}
use Rattle.prospect.proofs.until.found_at.Goals as goal

pub returns : goal.returns
returns c = record { holds_2 = record { can = c.find_again-found.ensures.holds_2.can; elsewhere = c.find_again-found.ensures.holds_2.elsewhere }; lasts = lasts_found _ _ _ c.requires.checked _ _ _ _ c.find_again-found.ensures.holds_2 c.find_again-found.ensures.also_value (c.until_at-height.ensures ∙ rw c.comers-come.ensures) }
