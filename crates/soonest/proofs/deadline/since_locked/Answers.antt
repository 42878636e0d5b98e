-- By the lock type.
use Rattle.soonest.specs.Soonest.{since_locked}
use Rattle.soonest.proofs.deadline.since_locked.Goals as goal

pub returns : goal.returns
unfolding since_locked
returns c = simp (← c.lock_type.ensures)
