-- The sheet, then the setup, then the ending.
use Rattle.std.proofs.lemmas.Result.{err_from_is_err_and}
use Rattle.sheet.proofs.Refusing.{passed_on, some_refused}
use Rattle.laws.proofs.Prelude.{sym, ◌∙◌, refl}
use Rattle.sheet.proofs.Theorems.{fit}
use Rattle.call_earliest.proofs.Answers.{by_sheet, by_setup, by_ending}
use Rattle.call_earliest.proofs.earliest_refusal.Goals as goal

pub returns-in_err-sheet_refusal : goal.returns-in_err-sheet_refusal
returns-in_err-sheet_refusal c = passed_on _ (err_from_is_err_and _ c.from_residual.ensures.1) ∙ by_sheet _ _ _ _ _ c.in_err-sheet_refusal.ensures (some_refused _)

pub returns-in_err-setup_refusal : goal.returns-in_err-setup_refusal
returns-in_err-setup_refusal c = passed_on _ (err_from_is_err_and _ c.from_residual-in_err-setup_refusal.ensures.1) ∙ by_setup _ _ _ _ _ _ c.in_ok-sheet_refusal.ensures refl c.in_err-setup_refusal.ensures (some_refused _)

pub of-requires : goal.of-requires
of-requires c = (fit _ _ (sym c.in_ok-sheet_refusal.ensures) (sym c.in_ok-setup_refusal.ensures)).checked.sized

pub ending_refusal-requires : goal.ending_refusal-requires
ending_refusal-requires c = rw c.of.ensures (fit _ _ (sym c.in_ok-sheet_refusal.ensures) (sym c.in_ok-setup_refusal.ensures))

pub returns : goal.returns
returns c = by_ending _ _ _ _ _ _ _ c.in_ok-sheet_refusal.ensures refl c.in_ok-setup_refusal.ensures refl (rw c.of.ensures at c.ending_refusal.ensures)
