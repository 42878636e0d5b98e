-- Made, early, or as conduct says.
use Rattle.std.proofs.lemmas.Result.{err_from_is_err_and}
use Rattle.laws.proofs.Prelude.{refl, ap, ◌∙◌, not-true, not-false}
use Rattle.sheet.specs.Refusal.{number}
use Rattle.sheet.proofs.Refusing.{passed_on, failed, there}
use Rattle.position.proofs.ShareTests.{first_made, first_early, first_else}
use Rattle.position.proofs.Position.first_refusal.Goals as goal

pub returns-in_err-require : goal.returns-in_err-require
returns-in_err-require c =
    let w = failed _ _ c.in_err-require.ensures in
    passed_on _ (err_from_is_err_and _ c.from_residual.ensures.1) ∙ ap number w.1 ∙ first_made _ _ _ _ _ c.first_shares_made.ensures (not-false _ w.0)

pub returns-then-early : goal.returns-then-early
returns-then-early c = first_early _ _ _ _ _ c.first_shares_made.ensures (not-true _ (there _ _ _ c.in_ok-require.ensures refl)) _ c.requires.early_value c.if-early.true

pub returns : goal.returns
returns c = first_else _ _ _ _ _ c.first_shares_made.ensures (not-true _ (there _ _ _ c.in_ok-require.ensures refl)) _ _ c.may_share-allowed.ensures c.conduct_refusal.ensures
