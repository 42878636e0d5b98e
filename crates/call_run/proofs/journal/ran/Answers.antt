-- Refused with the sheet, or run.
use Rattle.sheet.proofs.Refusing.{some_refused}
use Rattle.laws.proofs.Prelude.{sym, ◌∙◌}
use Rattle.call_run.proofs.Calls.{by_sheet}
use Rattle.call_run.proofs.Runs.{ran_refused}
use Rattle.call_run.proofs.journal.ran.Goals as goal

pub returns-in-Err : goal.returns-in-Err
returns-in-Err c = c.without_step.ensures ∙ ran_refused _ _ _ _ _ (by_sheet _ _ _ _ (c.number.ensures ∙ c.in-Err.ensures) (λ z. some_refused _ (sym c.number.ensures ∙ z))) (λ z. some_refused _ (sym c.number.ensures ∙ z)) c.start.ensures

pub ran_checked-requires : goal.ran_checked-requires
ran_checked-requires c = sym c.in_default.ensures

pub returns : goal.returns
returns c = c.ran_checked.ensures
