-- 1 to 32 transactions: check 2.
use Rattle.sheet.specs.Check.{count_right}
use Rattle.laws.proofs.Prelude.{tests}
use Rattle.sheet.proofs.check.count_right.Goals as goal

pub returns-then-n-ge1 : goal.returns-then-n-ge1
unfolding count_right
returns-then-n-ge1 c = simp (tests, ← c.count-n.ensures.is, c.if-n-ge1.true)

pub returns-else-n-ge1 : goal.returns-else-n-ge1
unfolding count_right
returns-else-n-ge1 c = simp (tests, ← c.count-n.ensures.is, c.if-n-ge1.false)
