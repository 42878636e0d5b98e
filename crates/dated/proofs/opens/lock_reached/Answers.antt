-- The two heights compared.
use Rattle.dated.proofs.opens.lock_reached.Goals as goal

pub returns : goal.returns
returns c = rw (← c.lock_height.ensures.is, ← c.from.ensures)
