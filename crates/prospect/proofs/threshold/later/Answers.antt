-- The greater.
use Rattle.soonest.specs.Soonest.{greater}
use Rattle.laws.specs.Booleans.{tests}
use Rattle.prospect.proofs.threshold.later.Goals as goal

pub returns-then-a-b : goal.returns-then-a-b
unfolding greater
returns-then-a-b c = simp (tests, c.if-a-b.true)

pub returns-else-a-b : goal.returns-else-a-b
unfolding greater
returns-else-a-b c = simp (tests, c.if-a-b.false)
