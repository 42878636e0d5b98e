-- The union.
use mathlib.Core.Path.{refl}
use Rattle.steps.specs.Forms.View.{placed_set}
use Rattle.steps.proofs.View.placed.Goals as goal

pub returns : goal.returns
unfolding placed_set
returns c = refl
