-- A pool entry, and what it exposes.
use Rattle.slots.specs.Slot.{entry_for}
use Rattle.steps.proofs.sending.sent_slot.Goals as goal

pub returns : goal.returns
unfolding entry_for
returns c = rw (c.with_pool.ensures, c.with_shared-shared.ensures, c.exposed_mask-mask.ensures)
