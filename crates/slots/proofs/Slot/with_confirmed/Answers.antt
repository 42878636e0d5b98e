-- The other fields stay.
use Rattle.slots.specs.Slot.{with_confirmed}
use mathlib.Core.Path.{refl}
use Rattle.slots.proofs.Slot.with_confirmed.Goals as goal

pub returns : goal.returns
unfolding with_confirmed
returns c = refl
