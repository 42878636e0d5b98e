-- By the lock type.
use Rattle.laws.proofs.Prelude.{tests, arith}
use Rattle.sheet.specs.LockHeight.{lock_height}
use Rattle.slots.proofs.lock_height.lock_over.Goals as goal

pub returns-then-lock-eq0 : goal.returns-then-lock-eq0
unfolding lock_height
returns-then-lock-eq0 c = record { is = simp (tests, ← c.lock_type-lock.ensures, c.if-lock-eq0.true); small = λ bound h k. omega arith }

pub returns-then-lock-eq1 : goal.returns-then-lock-eq1
unfolding lock_height
returns-then-lock-eq1 c = record { is = simp (tests, ← c.lock_type-lock.ensures, c.if-lock-eq1.true, c.lock_blocks-blocks.ensures.is); small = λ bound h k. omega (arith, c.lock_blocks-blocks.ensures.small) }

pub returns : goal.returns
unfolding lock_height
returns c = record { is = simp (tests, ← c.lock_type-lock.ensures, c.if-lock-eq0.false, c.if-lock-eq1.false, ← c.lock_blocks-blocks.ensures.is, c.since_parent.ensures.is); small = c.since_parent.ensures.small }
