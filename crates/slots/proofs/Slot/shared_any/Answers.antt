-- The union over the four destinations.
use lib.Bits.{or_zero_l}
use Rattle.slots.specs.Slot.{shared_for, shared_any}
use Rattle.laws.specs.Mask.{union_below}
use Rattle.slots.proofs.Slot.shared_any.Goals as goal

pub returns : goal.returns
unfolding shared_any union_below shared_for
returns c = rw or_zero_l
