-- The other fields stay.
use Rattle.slots.specs.Slot.{with_pool}
use mathlib.Core.Path.{refl}
use Rattle.slots.proofs.Slot.with_pool.Goals as goal

pub returns : goal.returns
unfolding with_pool
returns c = refl
