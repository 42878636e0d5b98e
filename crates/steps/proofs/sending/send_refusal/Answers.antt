-- The tests in their order.
use Rattle.std.proofs.lemmas.Result.{err_from_is_err_and}
use Rattle.laws.proofs.Prelude.{refl, ap, not}
use Rattle.slots.specs.Conflict.{no_conflict}
use Rattle.steps.specs.Forms.Sending.{send_tests_in}
use Rattle.sheet.proofs.Refusing.{stops, goes, last}
use Rattle.steps.proofs.sending.send_refusal.Goals as goal

pub returns-in_err-require : goal.returns-in_err-require
unfolding send_tests_in no_conflict
returns-in_err-require c =
    stops _ _ _ _ _ c.in_err-require.ensures refl (err_from_is_err_and _ c.from_residual.ensures.1)

pub returns-in_err-require-2 : goal.returns-in_err-require-2
unfolding send_tests_in no_conflict
returns-in_err-require-2 c =
    goes _ _ _ _ c.in_ok-require.ensures refl
    (stops _ _ _ _ _ c.in_err-require-2.ensures (ap not c.conflict_in.ensures) (err_from_is_err_and _ c.from_residual-in_err-require-2.ensures.1))

pub returns-in_err-require-3 : goal.returns-in_err-require-3
unfolding send_tests_in no_conflict
returns-in_err-require-3 c =
    goes _ _ _ _ c.in_ok-require.ensures refl
    (goes _ _ _ _ c.in_ok-require-2.ensures (ap not c.conflict_in.ensures)
    (stops _ _ _ _ _ c.in_err-require-3.ensures c.parent_there.ensures (err_from_is_err_and _ c.from_residual-in_err-require-3.ensures.1)))

pub returns-in_err-require-4 : goal.returns-in_err-require-4
unfolding send_tests_in no_conflict
returns-in_err-require-4 c =
    goes _ _ _ _ c.in_ok-require.ensures refl
    (goes _ _ _ _ c.in_ok-require-2.ensures (ap not c.conflict_in.ensures)
    (goes _ _ _ _ c.in_ok-require-3.ensures c.parent_there.ensures
    (stops _ _ _ _ _ c.in_err-require-4.ensures c.unlocked.ensures (err_from_is_err_and _ c.from_residual-in_err-require-4.ensures.1))))

pub returns : goal.returns
unfolding send_tests_in no_conflict
returns c =
    goes _ _ _ _ c.in_ok-require.ensures refl
    (goes _ _ _ _ c.in_ok-require-2.ensures (ap not c.conflict_in.ensures)
    (goes _ _ _ _ c.in_ok-require-3.ensures c.parent_there.ensures
    (goes _ _ _ _ c.in_ok-require-4.ensures c.unlocked.ensures
    (last _ _ _ _ c.require-5.ensures c.signed.ensures))))
