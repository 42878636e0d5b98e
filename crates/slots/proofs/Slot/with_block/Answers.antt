-- The other fields stay.
use Rattle.slots.specs.Slot.{with_block}
use mathlib.Core.Path.{refl}
use Rattle.slots.proofs.Slot.with_block.Goals as goal

pub returns : goal.returns
unfolding with_block
returns c = refl
