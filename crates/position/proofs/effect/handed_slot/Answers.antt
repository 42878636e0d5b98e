-- A share of nothing, then a block entry.
use Rattle.position.proofs.SharedNone.{shared_none}
use Rattle.slots.specs.Slot.{entry_for}
use Rattle.position.proofs.effect.handed_slot.Goals as goal

pub returns : goal.returns
unfolding entry_for
returns c = rw (c.with_block.ensures, c.with_shared-y.ensures, shared_none)
