-- The first of the checks 9, 32 and 10 that fails.
use Rattle.std.proofs.lemmas.Result.{err_from_is_err_and}
use Rattle.sheet.specs.Setup.{setup_tests, setup_refusal}
use Rattle.sheet.proofs.Passed.{setup_four}
use Rattle.sheet.proofs.Refusing.{stops, goes, there, last}
use Rattle.sheet.proofs.setup.setup_refusal.Goals as goal

pub returns-in_err-require : goal.returns-in_err-require
unfolding setup_refusal setup_tests
returns-in_err-require c = stops _ _ _ _ _ c.in_err-require.ensures c.blocks_right.ensures (err_from_is_err_and _ c.from_residual.ensures.1)

pub parties_right-requires : goal.parties_right-requires
parties_right-requires c = setup_four _ (there _ _ _ c.in_ok-require.ensures c.blocks_right.ensures)

pub returns-in_err-require-2 : goal.returns-in_err-require-2
unfolding setup_refusal setup_tests
returns-in_err-require-2 c =
    goes _ _ _ _ c.in_ok-require.ensures c.blocks_right.ensures
    (stops _ _ _ _ _ c.in_err-require-2.ensures c.parties_right.ensures (err_from_is_err_and _ c.from_residual-in_err-require-2.ensures.1))

pub conduct_right-requires : goal.conduct_right-requires
conduct_right-requires c = setup_four _ (there _ _ _ c.in_ok-require.ensures c.blocks_right.ensures)

pub returns : goal.returns
unfolding setup_refusal setup_tests
returns c =
    goes _ _ _ _ c.in_ok-require.ensures c.blocks_right.ensures
    (goes _ _ _ _ c.in_ok-require-2.ensures c.parties_right.ensures
    (last _ _ _ _ c.require-3.ensures c.conduct_right.ensures))
