-- The days of a lock; a byte is at most 255.
use Rattle.laws.proofs.Prelude.{le-leb, rules, and-true, tests}
use Rattle.sheet.specs.Check.{days_right}
use Rattle.sheet.proofs.check.days_right.Goals as goal

pub returns-then-lock_type-eq0 : goal.returns-then-lock_type-eq0
unfolding days_right
returns-then-lock_type-eq0 c = simp (tests, ← c.lock_type.ensures, ← c.days-days.ensures, c.if-lock_type-eq0.true)

pub returns : goal.returns
unfolding days_right
returns c = simp (tests, ← c.lock_type.ensures, ← c.days-days.ensures, c.if-lock_type-eq0.false, le-leb c.days-days.result 255 (search rules), and-true)
