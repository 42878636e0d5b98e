-- The deadline of success against the blocks mined.
use Rattle.position.specs.Conduct.{late}
use Rattle.position.proofs.Position.late.Goals as goal

pub returns : goal.returns
unfolding late
returns c = rw (c.deadline_in.ensures.is, c.from.ensures)
