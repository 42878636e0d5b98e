-- What is found, or what was found.
use Rattle.laws.proofs.Prelude.{◌∙◌, sym, ltb-true}
use Rattle.laws.specs.Booleans.{and_parts}
use Rattle.prospect.specs.Forms.Until.{lasting}
use Rattle.prospect.proofs.Lasting.{lasts_none}
use Rattle.prospect.proofs.until.next.Goals as goal

pub found_at-requires : goal.found_at-requires
unfolding lasting
found_at-requires c = record { checked = c.requires.checked; holds = c.requires.holds; sound = c.requires.sound; t_bound = c.requires.t_bound; k_lt_count = ltb-true _ _ (and_parts _ _ (sym c.lasting.ensures ∙ c.if-lasting.true)).0 }

pub returns-then-lasting : goal.returns-then-lasting
returns-then-lasting c = record { holds_2 = c.found_at.ensures.holds_2; lasts = c.found_at.ensures.lasts }

pub returns : goal.returns
returns c = record { holds_2 = record { can = c.requires.holds.can; elsewhere = c.requires.holds.elsewhere }; lasts = lasts_none _ _ _ c.requires.checked _ _ (sym c.lasting.ensures ∙ c.if-lasting.false) }
