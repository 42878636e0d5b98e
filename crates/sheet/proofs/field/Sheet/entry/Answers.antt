-- The place of a byte of the first array.
use Rattle.laws.proofs.Prelude.{ap}
use Rattle.sheet.specs.Field.{entry}
use Rattle.sheet.proofs.field.Sheet.entry.Goals as goal

pub returns : goal.returns
unfolding entry
returns c = rw (← ap (λ w. w.bytes) c.self.view_is, ← c.arrays-start.ensures.is)
