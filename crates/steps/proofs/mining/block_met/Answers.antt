-- An entry in the block, or transaction 0 confirmed.
use Rattle.laws.proofs.Prelude.{tests}
use Rattle.steps.proofs.mining.block_met.Goals as goal

pub returns-then-view-ne0 : goal.returns-then-view-ne0
returns-then-view-ne0 c = simp (tests, c.if-view-ne0.true)

pub returns : goal.returns
returns c = simp (tests, c.if-view-ne0.false, c.has.ensures)
