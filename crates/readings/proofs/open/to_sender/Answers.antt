-- The contract or itself.
use Rattle.laws.specs.Booleans.{tests}
use Rattle.readings.proofs.open.to_sender.Goals as goal

pub returns-then-destination-eq2 : goal.returns-then-destination-eq2
returns-then-destination-eq2 c = simp (tests, c.if-destination-eq2.true)

pub returns : goal.returns
returns c = simp (tests, c.if-destination-eq2.false)
