-- By the lock type; the sum cannot wrap.
use Rattle.call_timelocks.specs.Fields.{n_lock_time}
use Rattle.call_timelocks.specs.Limits.{absolute_right}
use Rattle.laws.proofs.Prelude.{tests}
use Rattle.call_timelocks.proofs.limits.absolute_right.Goals as goal

pub returns-then-lock_type-ne1 : goal.returns-then-lock_type-ne1
unfolding absolute_right n_lock_time
returns-then-lock_type-ne1 c = simp (tests, ← c.lock_type.ensures, c.if-lock_type-ne1.true)

pub returns : goal.returns
unfolding absolute_right n_lock_time
returns c = simp (tests, ← c.lock_type.ensures, c.if-lock_type-ne1.false, c.sum.ensures, c.lock_blocks.ensures.is)
