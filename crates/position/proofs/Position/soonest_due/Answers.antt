-- What is known; else the least of the set.
use Rattle.position.proofs.Due.{soonest_all, none_soonest}
use Rattle.position.specs.Forms.Owed.{due_before}
use Rattle.laws.proofs.Prelude.{length_of_map, refl, eq-eqb, ne_eqb, rules}
use Rattle.position.proofs.Position.soonest_due.Goals as goal

pub returns-then-kind-ne6 : goal.returns-then-kind-ne6
unfolding due_before
returns-then-kind-ne6 c = rw (ne_eqb _ _ c.if-kind-ne6.true) refl

pub returns-then-known-ne0 : goal.returns-then-known-ne0
unfolding due_before
returns-then-known-ne0 c = rw (eq-eqb _ _ c.if-kind-ne6.false) (c.requires.due_known c.if-known-ne0.true)

pub returns-then-among-eq0 : goal.returns-then-among-eq0
unfolding due_before
returns-then-among-eq0 c =
    rw (eq-eqb _ _ c.if-kind-ne6.false)
    (none_soonest _ _ _ _ c.requires.fit.checked.sized.few (search (length_of_map, c.well_formed)) c.requires.view_value (search rules) (search rules) c.if-among-eq0.true)

pub returns : goal.returns
unfolding due_before
returns c =
    rw (eq-eqb _ _ c.if-kind-ne6.false)
    (soonest_all _ _ _ _ c.requires.fit.checked.sized.few (search (length_of_map, c.well_formed)) c.requires.view_value (search rules) (search rules) _ _ c.per_day.ensures c.soonest_in.ensures)
