-- None, or those that the search finds.
use Rattle.steps.specs.Forms.Blocks.{displaced_in}
use Rattle.laws.proofs.Prelude.{eq-eqb, ne_eqb}
use Rattle.steps.proofs.bumped.displaced.Goals as goal

pub returns-then-view-eq0 : goal.returns-then-view-eq0
unfolding displaced_in
returns-then-view-eq0 c = rw (eq-eqb _ _ c.if-view-eq0.true)

pub returns : goal.returns
unfolding displaced_in
returns c = rw (ne_eqb _ _ c.if-view-eq0.false) c.conflicts_of.ensures
