-- The sheet, then the setup, then the two limits.
use Rattle.std.proofs.lemmas.Result.{err_from_is_err_and}
use Rattle.sheet.proofs.Refusing.{passed_on, some_refused}
use Rattle.sheet.proofs.Theorems.{fit}
use Rattle.call_timelocks.proofs.Answers.{by_sheet, by_setup, by_limits}
use Rattle.laws.proofs.Prelude.{sym, ◌∙◌, refl}
use Rattle.call_timelocks.proofs.field_refusal.Goals as goal

pub returns-in_err-sheet_refusal : goal.returns-in_err-sheet_refusal
returns-in_err-sheet_refusal c = passed_on _ (err_from_is_err_and _ c.from_residual.ensures.1) ∙ by_sheet _ _ _ _ c.in_err-sheet_refusal.ensures (some_refused _)

pub returns-in_err-setup_refusal : goal.returns-in_err-setup_refusal
returns-in_err-setup_refusal c = passed_on _ (err_from_is_err_and _ c.from_residual-in_err-setup_refusal.ensures.1) ∙ by_setup _ _ _ _ _ c.in_ok-sheet_refusal.ensures refl c.in_err-setup_refusal.ensures (some_refused _)

pub per_day-requires : goal.per_day-requires
per_day-requires c = (fit _ _ (sym c.in_ok-sheet_refusal.ensures) (sym c.in_ok-setup_refusal.ensures)).setup.size

pub of-requires : goal.of-requires
of-requires c = (fit _ _ (sym c.in_ok-sheet_refusal.ensures) (sym c.in_ok-setup_refusal.ensures)).checked.sized

pub returns : goal.returns
returns c = by_limits _ _ _ _ _ _ _ c.in_ok-sheet_refusal.ensures refl c.in_ok-setup_refusal.ensures refl c.per_day.ensures (rw c.of.ensures at c.limit_refusal.ensures)
