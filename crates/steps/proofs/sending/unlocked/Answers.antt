-- The two heights compared.
use Rattle.steps.proofs.Reached.{below_next}
use Rattle.steps.proofs.sending.unlocked.Goals as goal

pub returns : goal.returns
returns c = rw (← c.lock_height.ensures.is, ← c.from.ensures) (below_next c.lock_height.result c.from.result)
