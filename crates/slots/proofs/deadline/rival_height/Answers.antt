-- A child of `up` with a higher lock gives its lock height, any other never.
use Rattle.laws.proofs.Prelude.{tests, sym, ◌∙◌, eq-eqb, ne_eqb, rules}
use Rattle.slots.proofs.deadline.rival_height.Goals as goal

pub returns-then-parent-up : goal.returns-then-parent-up
returns-then-parent-up c = record { is = simp (ne_eqb _ _ (λ e. c.if-parent-up.true (c.parent.ensures.is ∙ sym e))); small = search rules }

pub returns-then-own-height : goal.returns-then-own-height
returns-then-own-height c = record { is = simp (tests, eq-eqb _ _ (sym c.if-parent-up.false ∙ c.parent.ensures.is), ← c.lock_height-height.ensures.is, c.if-own-height.true); small = c.lock_height-height.ensures.small }

pub returns : goal.returns
returns c = record { is = simp (tests, eq-eqb _ _ (sym c.if-parent-up.false ∙ c.parent.ensures.is), ← c.lock_height-height.ensures.is, c.if-own-height.false); small = search rules }
