-- The two heights compared.
use Rattle.steps.proofs.sending.in_time.Goals as goal

pub returns : goal.returns
returns c = rw (← c.deadline_by.ensures.is, ← c.from.ensures)
