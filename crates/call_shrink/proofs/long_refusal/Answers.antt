-- Sheet, setup, journal; then its steps.
use Rattle.std.proofs.lemmas.Result.{err_from_is_err_and}
use Rattle.sheet.proofs.Refusing.{passed_on, some_refused, last}
use Rattle.laws.proofs.Prelude.{sym, ◌∙◌, refl}
use Rattle.call_shrink.proofs.Testing.{long_sheet, long_call, long_rest}
use Rattle.call_shrink.proofs.long_refusal.Goals as goal

pub returns-in_err-sheet_refusal : goal.returns-in_err-sheet_refusal
returns-in_err-sheet_refusal c = passed_on _ (err_from_is_err_and _ c.from_residual.ensures.1) ∙ long_sheet _ _ _ _ c.in_err-sheet_refusal.ensures (some_refused _)

pub call_refusal-requires : goal.call_refusal-requires
call_refusal-requires c = sym c.in_ok-sheet_refusal.ensures

pub returns-in_err-call_refusal : goal.returns-in_err-call_refusal
returns-in_err-call_refusal c = passed_on _ (err_from_is_err_and _ c.from_residual-in_err-call_refusal.ensures.1) ∙ long_call _ _ _ _ c.in_err-call_refusal.ensures (some_refused _)

pub returns : goal.returns
returns c = long_rest _ _ _ _ c.in_ok-call_refusal.ensures refl _ (last _ _ _ _ c.require.ensures refl)
