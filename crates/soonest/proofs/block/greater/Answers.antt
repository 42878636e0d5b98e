-- The two cases.
use Rattle.soonest.specs.Soonest.{greater}
use Rattle.laws.specs.Booleans.{tests}
use Rattle.soonest.proofs.block.greater.Goals as goal

pub returns-then-a-b : goal.returns-then-a-b
unfolding greater
returns-then-a-b c = simp (tests, c.if-a-b.true)

pub returns : goal.returns
unfolding greater
returns c = simp (tests, c.if-a-b.false)
