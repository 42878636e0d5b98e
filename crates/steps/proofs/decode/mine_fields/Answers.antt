-- The miner, transaction 255, destination 2.
use Rattle.laws.specs.Booleans.{tests}
use Rattle.steps.proofs.decode.mine_fields.Goals as goal

pub returns-then-party-ne2 : goal.returns-then-party-ne2
returns-then-party-ne2 c = simp (tests, c.if-party-ne2.true)

pub returns-then-t-ne-NO_TRANSACTION : goal.returns-then-t-ne-NO_TRANSACTION
returns-then-t-ne-NO_TRANSACTION c = simp (tests, c.if-party-ne2.false, c.if-t-ne-NO_TRANSACTION.true)

pub returns : goal.returns
returns c = simp (c.if-party-ne2.false, c.if-t-ne-NO_TRANSACTION.false)
