-- The deadline since the block that was read.
use Rattle.position.proofs.Position.deadline_with.Goals as goal

pub returns : goal.returns
returns c = rw (← c.since.ensures) c.deadline.ensures
