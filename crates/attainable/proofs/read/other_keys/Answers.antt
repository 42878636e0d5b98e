-- None for X.
use Rattle.laws.proofs.Prelude.{tests}
use Rattle.attainable.proofs.read.other_keys.Goals as goal

pub returns-then-other-party : goal.returns-then-other-party
returns-then-other-party c = simp (tests, c.if-other-party.true)

pub returns : goal.returns
returns c = simp (tests, c.if-other-party.false, c.keys.ensures)
