-- Nothing after another kind, and after a block with entries.
use Rattle.steps.specs.Forms.Mining.{still_due}
use Rattle.laws.proofs.Prelude.{refl, eq-eqb, ne_eqb}
use Rattle.steps.proofs.owed.still_due.Goals as goal

pub returns-then-kind-ne6 : goal.returns-then-kind-ne6
unfolding still_due
returns-then-kind-ne6 c = rw (ne_eqb _ _ c.if-kind-ne6.true) refl

pub returns-then-block-ne0 : goal.returns-then-block-ne0
unfolding still_due
returns-then-block-ne0 c = rw (eq-eqb _ _ c.if-kind-ne6.false, ne_eqb _ _ c.if-block-ne0.true) refl

pub returns : goal.returns
unfolding still_due
returns c = rw (eq-eqb _ _ c.if-kind-ne6.false, eq-eqb _ _ c.if-block-ne0.false) refl
