-- The tests in their order.
use Rattle.std.proofs.lemmas.Result.{err_from_is_err_and}
use Rattle.laws.proofs.Prelude.{refl}
use Rattle.steps.specs.Forms.Mining.{mine_tests_in}
use Rattle.sheet.proofs.Refusing.{stops, goes, last}
use Rattle.steps.proofs.mining.mine_refusal.Goals as goal

pub returns-in_err-require : goal.returns-in_err-require
unfolding mine_tests_in
returns-in_err-require c =
    stops _ _ _ _ _ c.in_err-require.ensures refl (err_from_is_err_and _ c.from_residual.ensures.1)

pub returns-in_err-require-2 : goal.returns-in_err-require-2
unfolding mine_tests_in
returns-in_err-require-2 c =
    goes _ _ _ _ c.in_ok-require.ensures refl
    (stops _ _ _ _ _ c.in_err-require-2.ensures c.block_met.ensures (err_from_is_err_and _ c.from_residual-in_err-require-2.ensures.1))

pub returns : goal.returns
unfolding mine_tests_in
returns c =
    goes _ _ _ _ c.in_ok-require.ensures refl
    (goes _ _ _ _ c.in_ok-require-2.ensures c.block_met.ensures
    (last _ _ _ _ c.require-3.ensures refl))
