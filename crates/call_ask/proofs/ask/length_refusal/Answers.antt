-- Sheet, setup, or the length.
use Rattle.std.proofs.lemmas.Result.{err_from_is_err_and}
use Rattle.sheet.proofs.Refusing.{passed_on, some_refused}
use Rattle.laws.proofs.Prelude.{refl, ◌∙◌}
use Rattle.call_ask.proofs.Opens.{by_sheet, by_setup, by_length}
use Rattle.call_ask.proofs.ask.length_refusal.Goals as goal

pub returns-in_err-sheet_refusal : goal.returns-in_err-sheet_refusal
returns-in_err-sheet_refusal c = passed_on _ (err_from_is_err_and _ c.from_residual.ensures.1) ∙ by_sheet _ _ _ _ c.in_err-sheet_refusal.ensures (some_refused _)

pub returns-in_err-setup_refusal : goal.returns-in_err-setup_refusal
returns-in_err-setup_refusal c = passed_on _ (err_from_is_err_and _ c.from_residual-in_err-setup_refusal.ensures.1) ∙ by_setup _ _ _ _ _ c.in_ok-sheet_refusal.ensures refl c.in_err-setup_refusal.ensures (some_refused _)

pub returns : goal.returns
returns c = by_length _ _ _ _ c.in_ok-sheet_refusal.ensures refl c.in_ok-setup_refusal.ensures refl
