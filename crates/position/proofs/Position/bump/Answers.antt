-- The test, then the effect.
use Rattle.laws.proofs.Prelude.{refl, sym, ◌∙◌}
use Rattle.sheet.proofs.Refusing.{some_refused}
use Rattle.position.proofs.StepCases.{refuses, accepts}
use Rattle.position.specs.Tests.{bump_tests}
use Rattle.position.specs.StepRefusal.{tests, step_refusal}
use Rattle.position.specs.Effect.{effect}
use Rattle.position.proofs.Position.bump.Goals as goal

pub owed-owed-requires : goal.owed-owed-requires
owed-owed-requires c = record { fit = c.requires.fit; view_value = c.requires.view_value; t_bound = rw c.from-k.ensures c.requires.t_bound }

pub returns-in-Err : goal.returns-in-Err
unfolding step_refusal tests bump_tests
returns-in-Err c = refuses _ _ _ _ _ (rw (← c.from-k.ensures, ← c.owed-owed.ensures) (c.number.ensures ∙ c.in-Err.ensures)) (λ z. some_refused _ (sym c.number.ensures ∙ z))

pub after_bump-position-requires : goal.after_bump-position-requires
after_bump-position-requires c = record { checked = c.requires.fit.checked; view_value = c.requires.view_value; t_bound = rw c.from-k.ensures c.requires.t_bound }

pub returns : goal.returns
unfolding step_refusal tests bump_tests effect
returns c = accepts _ _ _ _ _ _ (rw (← c.from-k.ensures, ← c.owed-owed.ensures) c.in_default.ensures) refl (rw (← c.from-k.ensures) c.after_bump-position.ensures)
