-- The bit of the party's marks.
use Rattle.slots.specs.Slot.{marked_for}
use Rattle.laws.proofs.Prelude.{bit, ap, ◌∙◌}
use Rattle.slots.proofs.Slot.marked_for.Goals as goal

pub returns : goal.returns
unfolding marked_for
returns c = c.has.ensures ∙ ap (λ m. bit m c.args.destination) c.marks.ensures
