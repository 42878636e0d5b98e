-- Owed, or 21.
use Rattle.laws.proofs.Prelude.{refl}
use Rattle.steps.specs.Tests.{bump_rule}
use Rattle.sheet.proofs.Refusing.{last}
use Rattle.steps.proofs.mining.bump_refusal.Goals as goal

pub returns : goal.returns
unfolding bump_rule
returns c =
    last _ _ _ _ c.require.ensures refl
