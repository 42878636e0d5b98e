-- The same number in a wider type.
use Rattle.laws.proofs.Prelude.{refl, rules}
use Rattle.steps.proofs.owed.is_next.Goals as goal

pub returns : goal.returns
returns c = (rw c.from.ensures refl, search rules)
