-- The lock height over the block.
use Rattle.soonest.specs.Soonest.{lock_at}
use Rattle.soonest.proofs.lock.lock_at.Goals as goal

pub returns : goal.returns
unfolding lock_at
returns c = c.lock_over.ensures
