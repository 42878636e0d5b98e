-- By the bits that both have.
use Rattle.kept.specs.Forms.Evaluation.{within}
use Rattle.laws.proofs.Prelude.{refl}
use Rattle.kept.proofs.kept.within.Goals as goal

pub returns : goal.returns
unfolding within
returns c = refl
