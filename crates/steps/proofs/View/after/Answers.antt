-- The sets without k, and with it by what its slot has.
use Rattle.slots.specs.Slot.{standing}
use Rattle.steps.specs.Forms.View.{view_after}
use Rattle.steps.proofs.View.after.Goals as goal

pub returns : goal.returns
unfolding view_after standing
returns c = rw (c.shared_any.ensures, c.join-3.ensures, c.join-2.ensures, c.join.ensures, c.remove-block.ensures, c.remove-pool.ensures)
