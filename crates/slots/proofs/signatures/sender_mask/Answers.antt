-- The three joined.
use Rattle.slots.specs.Signatures.{sender_mask}
use mathlib.Core.Path.{refl}
use Rattle.slots.proofs.signatures.sender_mask.Goals as goal

pub returns : goal.returns
unfolding sender_mask
returns c = refl
