-- The rivals of those with a lock.
use Rattle.slots.proofs.Deadlines.{expiring_by}
use Rattle.laws.proofs.Prelude.{◌∙◌, rules}
use Rattle.slots.proofs.expiring.expiring.Goals as goal

pub returns : goal.returns
returns c = (c.conflicts_of.ensures ∙ rw c.locked.ensures) ∙ expiring_by _ (search rules)
