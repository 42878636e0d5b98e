-- Stealth, then the tests that both kinds share.
use Rattle.std.proofs.lemmas.Result.{err_from_is_err_and}
use Rattle.laws.proofs.Prelude.{ap, eqb}
use Rattle.steps.specs.Forms.Sending.{miner_tests_in}
use Rattle.sheet.proofs.Refusing.{stops, goes}
use Rattle.steps.proofs.sending.miner_refusal.Goals as goal

pub returns-in_err-require : goal.returns-in_err-require
unfolding miner_tests_in
returns-in_err-require c =
    stops _ _ _ _ _ c.in_err-require.ensures (ap (λ k. eqb k 1) c.stealth.ensures) (err_from_is_err_and _ c.from_residual.ensures.1)

pub returns : goal.returns
unfolding miner_tests_in
returns c =
    goes _ _ _ _ c.in_ok-require.ensures (ap (λ k. eqb k 1) c.stealth.ensures)
    (rw (← c.placed.ensures, ← c.per_day.ensures, ← c.sender-have.ensures) c.send_refusal.ensures)
