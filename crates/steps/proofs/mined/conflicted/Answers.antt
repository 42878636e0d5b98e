-- None, or those that the search finds.
use Rattle.slots.proofs.OtherRivals.{no_conflicts_none}
use Rattle.steps.specs.Forms.Blocks.{conflicted_in}
use Rattle.laws.proofs.Prelude.{sym, ◌∙◌, eq-eqb, ne_eqb, not-true}
use Rattle.steps.proofs.mined.conflicted.Goals as goal

pub returns-then-view : goal.returns-then-view
unfolding conflicted_in
returns-then-view c = rw (eq-eqb _ _ c.if-view.true)

pub returns-then-not-has_conflicts : goal.returns-then-not-has_conflicts
unfolding conflicted_in
returns-then-not-has_conflicts c = rw (ne_eqb _ _ c.if-view.false) (no_conflicts_none _ _ (sym c.has_conflicts.ensures ∙ not-true _ c.if-not-has_conflicts.true-raw))

pub returns : goal.returns
unfolding conflicted_in
returns c = rw (ne_eqb _ _ c.if-view.false) c.conflicts_of.ensures
