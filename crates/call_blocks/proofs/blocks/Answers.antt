-- The sheet, then the setup, then the list.
use Rattle.std.proofs.lemmas.Result.{err_from_is_err_and}
use Rattle.sheet.proofs.Refusing.{passed_on, some_refused}
use Rattle.laws.proofs.Prelude.{sym, ◌∙◌, refl}
use Rattle.sheet.proofs.Theorems.{fit}
use Rattle.call_blocks.proofs.Tested.{by_sheet, by_setup, by_list}
use Rattle.call_blocks.proofs.blocks.Goals as goal

pub returns-in_err-sheet_refusal : goal.returns-in_err-sheet_refusal
returns-in_err-sheet_refusal c = passed_on _ (err_from_is_err_and _ c.from_residual.ensures.1) ∙ by_sheet _ _ _ _ c.in_err-sheet_refusal.ensures (some_refused _)

pub returns-in_err-setup_refusal : goal.returns-in_err-setup_refusal
returns-in_err-setup_refusal c = passed_on _ (err_from_is_err_and _ c.from_residual-in_err-setup_refusal.ensures.1) ∙ by_setup _ _ _ _ _ c.in_ok-sheet_refusal.ensures refl c.in_err-setup_refusal.ensures (some_refused _)

pub of-requires : goal.of-requires
of-requires c = (fit _ _ (sym c.in_ok-sheet_refusal.ensures) (sym c.in_ok-setup_refusal.ensures)).checked.sized

pub list_refusal-requires : goal.list_refusal-requires
list_refusal-requires c = rw c.of.ensures (fit _ _ (sym c.in_ok-sheet_refusal.ensures) (sym c.in_ok-setup_refusal.ensures))

pub returns : goal.returns
returns c = by_list _ _ _ _ _ _ c.in_ok-sheet_refusal.ensures refl c.in_ok-setup_refusal.ensures refl (rw c.of.ensures at c.list_refusal.ensures)
