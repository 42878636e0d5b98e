-- The tests that both kinds share, then the deadline.
use Rattle.std.proofs.lemmas.Result.{err_from_is_err_and}
use Rattle.laws.proofs.Prelude.{refl, ◌∙◌}
use Rattle.sheet.proofs.Refusing.{last, passed_on, some_refused}
use Rattle.steps.proofs.PoolTests.{pool_failed, pool_passed}
use Rattle.steps.proofs.sending.pool_refusal.Goals as goal

pub returns-in_err-send_refusal : goal.returns-in_err-send_refusal
returns-in_err-send_refusal c =
    passed_on _ (err_from_is_err_and _ c.from_residual.ensures.1)
    ∙ pool_failed _ _ _ _ _ _ _ _ _ _ _ _ _ c.per_day-per_day.ensures c.sent.ensures c.sender-have.ensures c.in_err-send_refusal.ensures (some_refused _)

pub returns : goal.returns
returns c =
    pool_passed _ _ _ _ _ _ _ _ _ _ _ _ _ c.per_day-per_day.ensures c.sent.ensures c.sender-have.ensures c.in_ok-send_refusal.ensures _ refl
    (last _ _ _ _ c.require.ensures c.in_time.ensures)
