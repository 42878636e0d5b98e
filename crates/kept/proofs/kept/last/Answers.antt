-- The later of the two, and one block more with stealth.
use Rattle.laws.specs.Booleans.{tests}
use Rattle.soonest.specs.Soonest.{greater}
use Rattle.kept.proofs.kept.last.Goals as goal

pub returns-then-off-end : goal.returns-then-off-end
unfolding greater
returns-then-off-end c = simp (tests, c.if-off-end.true)

pub returns : goal.returns
unfolding greater
returns c = simp (tests, c.if-off-end.false)
