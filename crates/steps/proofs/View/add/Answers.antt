-- The sets with k, by what its slot has.
use Rattle.slots.specs.Slot.{standing}
use Rattle.steps.specs.Forms.View.{view_with}
use Rattle.steps.proofs.View.add.Goals as goal

pub returns : goal.returns
unfolding view_with standing
returns c = rw (c.shared_any.ensures, c.join-3.ensures, c.join-2.ensures, c.join.ensures)
