-- The place of a byte of the second array.
use Rattle.laws.proofs.Prelude.{ap}
use Rattle.sheet.specs.Field.{lock_pair}
use Rattle.sheet.proofs.field.Sheet.lock_pair.Goals as goal

pub returns : goal.returns
unfolding lock_pair
returns c = rw (← c.count-n.ensures.is, ← ap (λ w. w.bytes) c.self.view_is, ← c.arrays-start.ensures.is)
