-- The rest is empty.
use Rattle.attainable.specs.Forms.Others.{meets}
use mathlib.Core.Path.{refl}
use Rattle.attainable.proofs.round.meets.Goals as goal

pub returns : goal.returns
unfolding meets
returns c = refl
