-- The miner, a transaction of the sheet, destination 2.
use Rattle.laws.proofs.Prelude.{tests}
use Rattle.steps.proofs.decode.miner_fields.Goals as goal

pub returns-then-party-ne2 : goal.returns-then-party-ne2
returns-then-party-ne2 c = simp (tests, c.if-party-ne2.true)

pub returns-then-from-count : goal.returns-then-from-count
returns-then-from-count c = simp (tests, c.if-party-ne2.false, ← c.from.ensures, ← c.count.ensures.is, c.if-from-count.true)

pub returns : goal.returns
returns c = simp (tests, c.if-party-ne2.false, ← c.from.ensures, ← c.count.ensures.is, c.if-from-count.false)
