-- The union.
use mathlib.Core.Path.{refl}
use Rattle.steps.specs.Forms.View.{sent_set}
use Rattle.steps.proofs.View.sent.Goals as goal

pub returns : goal.returns
unfolding sent_set
returns c = refl
