-- The lock pair is in range, and type 2 has a parent: check 7.
use Rattle.sheet.specs.Check.{lock_right}
use Rattle.laws.proofs.Prelude.{tests, not-true, not-false}
use Rattle.sheet.proofs.check.lock_right.Goals as goal

pub returns-then-lock-gt2 : goal.returns-then-lock-gt2
unfolding lock_right
returns-then-lock-gt2 c = simp (tests, ← c.lock_type-lock.ensures, c.if-lock-gt2.true)

pub returns-then-not-days_right : goal.returns-then-not-days_right
unfolding lock_right
returns-then-not-days_right c = simp (tests, ← c.lock_type-lock.ensures, c.if-lock-gt2.false, ← c.days_right.ensures, not-true c.days_right.result c.if-not-days_right.true-raw)

pub returns-then-lock-eq2 : goal.returns-then-lock-eq2
unfolding lock_right
returns-then-lock-eq2 c = simp (tests, ← c.lock_type-lock.ensures, ← c.days_right.ensures, not-false c.days_right.result c.if-not-days_right.false-raw, c.if-lock-eq2.true, ← c.opening.ensures)

pub returns : goal.returns
unfolding lock_right
returns c = simp (tests, ← c.lock_type-lock.ensures, c.if-lock-gt2.false, ← c.days_right.ensures, not-false c.days_right.result c.if-not-days_right.false-raw, c.if-lock-eq2.false)
