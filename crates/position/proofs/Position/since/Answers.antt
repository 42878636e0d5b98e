-- The height in the slot that was read.
use Rattle.position.specs.Forms.View.{since_in}
use Rattle.position.specs.Position.{slot}
use Rattle.position.proofs.Position.since.Goals as goal

pub returns : goal.returns
unfolding since_in slot
returns c = rw (← c.slot_above-up.ensures.0) c.block_above.ensures
