-- The test, then the effect.
use Rattle.position.proofs.StepCases.{refuses, accepts}
use Rattle.position.proofs.ShareTests.{share_answer}
use Rattle.position.proofs.Fields.{share_first_fits}
use Rattle.position.specs.Tests.{share_met}
use Rattle.position.specs.StepRefusal.{tests, step_refusal}
use Rattle.position.specs.Conduct.{conduct_allows}
use Rattle.position.specs.Effect.{effect, after_share}
use Rattle.laws.proofs.Prelude.{refl, sym, ◌∙◌}
use Rattle.sheet.proofs.Refusing.{some_refused}
use Rattle.position.proofs.Position.share_all.Goals as goal

pub returns-in-Err : goal.returns-in-Err
unfolding step_refusal tests conduct_allows share_met
returns-in-Err c = refuses _ _ _ _ _ (share_answer _ _ _ _ _ _ _ _ _ (c.number.ensures ∙ c.in-Err.ensures) refl refl) (λ z. some_refused _ (sym c.number.ensures ∙ z))

pub share_first-position-requires : goal.share_first-position-requires
share_first-position-requires c = record { bound = share_first_fits _ _ c.requires.fit.checked.sized.few c.requires.sheet_value refl }

pub returns : goal.returns
unfolding step_refusal tests conduct_allows share_met effect after_share
returns c = accepts _ _ _ _ _ _ (share_answer _ _ _ _ _ _ _ _ _ c.in_default.ensures refl refl) refl c.share_first-position.ensures
