-- The tests in their order.
use Rattle.std.proofs.lemmas.Result.{err_from_is_err_and}
use Rattle.laws.proofs.Prelude.{refl, ap, not, ◌∙◌}
use Rattle.slots.specs.Conflict.{no_conflict}
use Rattle.steps.specs.Forms.Mining.{include_tests_in}
use Rattle.sheet.proofs.Refusing.{stops, goes, last}
use Rattle.steps.proofs.mining.include_refusal.Goals as goal

pub returns-in_err-require : goal.returns-in_err-require
unfolding include_tests_in no_conflict
returns-in_err-require c =
    stops _ _ _ _ _ c.in_err-require.ensures (ap not (c.conflict_in.ensures ∙ rw c.placed.ensures refl)) (err_from_is_err_and _ c.from_residual.ensures.1)

pub returns-in_err-require-2 : goal.returns-in_err-require-2
unfolding include_tests_in no_conflict
returns-in_err-require-2 c =
    goes _ _ _ _ c.in_ok-require.ensures (ap not (c.conflict_in.ensures ∙ rw c.placed.ensures refl))
    (stops _ _ _ _ _ c.in_err-require-2.ensures (c.parent_there.ensures ∙ rw c.placed-2.ensures refl) (err_from_is_err_and _ c.from_residual-in_err-require-2.ensures.1))

pub returns-in_err-require-3 : goal.returns-in_err-require-3
unfolding include_tests_in no_conflict
returns-in_err-require-3 c =
    goes _ _ _ _ c.in_ok-require.ensures (ap not (c.conflict_in.ensures ∙ rw c.placed.ensures refl))
    (goes _ _ _ _ c.in_ok-require-2.ensures (c.parent_there.ensures ∙ rw c.placed-2.ensures refl)
    (stops _ _ _ _ _ c.in_err-require-3.ensures c.has.ensures (err_from_is_err_and _ c.from_residual-in_err-require-3.ensures.1)))

pub returns : goal.returns
unfolding include_tests_in no_conflict
returns c =
    goes _ _ _ _ c.in_ok-require.ensures (ap not (c.conflict_in.ensures ∙ rw c.placed.ensures refl))
    (goes _ _ _ _ c.in_ok-require-2.ensures (c.parent_there.ensures ∙ rw c.placed-2.ensures refl)
    (goes _ _ _ _ c.in_ok-require-3.ensures c.has.ensures
    (last _ _ _ _ c.require-4.ensures refl)))
