-- By the lock type.
use Rattle.call_timelocks.specs.Limits.{relative_right}
use Rattle.laws.proofs.Prelude.{tests}
use Rattle.call_timelocks.proofs.limits.relative_right.Goals as goal

pub returns-then-lock_type-ne2 : goal.returns-then-lock_type-ne2
unfolding relative_right
returns-then-lock_type-ne2 c = simp (tests, ← c.lock_type.ensures, c.if-lock_type-ne2.true)

pub returns : goal.returns
unfolding relative_right
returns c = simp (tests, ← c.lock_type.ensures, c.if-lock_type-ne2.false, ← c.sequence.ensures)
