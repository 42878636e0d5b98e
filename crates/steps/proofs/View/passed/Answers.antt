-- As it was, but for the blocks mined and the keys.
use Rattle.steps.specs.Forms.View.{view_passed}
use mathlib.Core.Path.{refl}
use Rattle.steps.proofs.View.passed.Goals as goal

pub returns : goal.returns
unfolding view_passed
returns c = refl
