-- The sheet, then the bundle.
use Rattle.std.proofs.lemmas.Result.{err_from_is_err_and}
use Rattle.sheet.proofs.Refusing.{passed_on, some_refused, ends}
use Rattle.laws.proofs.Prelude.{refl, ◌∙◌}
use Rattle.call_desk.proofs.Desks.{by_sheet, by_bundle, by_none}
use Rattle.call_desk.proofs.call_refusal.Goals as goal

pub returns-in_err-sheet_refusal : goal.returns-in_err-sheet_refusal
returns-in_err-sheet_refusal c = passed_on _ (err_from_is_err_and _ c.from_residual.ensures.1) ∙ by_sheet _ _ _ c.in_err-sheet_refusal.ensures (some_refused _)

pub returns : goal.returns
returns c =
    ends _ _ _ c.require.ensures
    (λ y. by_none _ _ _ _ c.in_ok-sheet_refusal.ensures refl c.bundle_right.ensures y)
    (λ y. by_bundle _ _ _ _ c.in_ok-sheet_refusal.ensures refl c.bundle_right.ensures y)
