-- By the lock type.
use Rattle.call_timelocks.specs.Fields.{n_sequence}
use Rattle.laws.proofs.Prelude.{tests}
use Rattle.call_timelocks.proofs.fields.sequence.Goals as goal

pub returns-then-lock-eq0 : goal.returns-then-lock-eq0
unfolding n_sequence
returns-then-lock-eq0 c = simp (tests, ← c.lock_type-lock.ensures, c.if-lock-eq0.true)

pub returns-then-lock-eq1 : goal.returns-then-lock-eq1
unfolding n_sequence
returns-then-lock-eq1 c = simp (tests, ← c.lock_type-lock.ensures, c.if-lock-eq1.true)

pub returns : goal.returns
unfolding n_sequence
returns c = simp (tests, ← c.lock_type-lock.ensures, c.if-lock-eq0.false, c.if-lock-eq1.false, c.lock_blocks.ensures.is)
