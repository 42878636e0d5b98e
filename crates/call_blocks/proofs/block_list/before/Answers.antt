-- By block, and in one block by transaction.
use Rattle.laws.specs.Booleans.{tests}
use Rattle.ledger.specs.Entry.{before}
use Rattle.call_blocks.proofs.Rise.{before_within}
use Rattle.call_blocks.proofs.block_list.before.Goals as goal

pub returns-then-a-b : goal.returns-then-a-b
unfolding before
returns-then-a-b c = simp (tests, c.if-a-b.true)

pub returns-then-a-b-2 : goal.returns-then-a-b-2
returns-then-a-b-2 c = before_within _ _ c.if-a-b-2.true

pub returns : goal.returns
unfolding before
returns c = simp (tests, c.if-a-b.false, c.if-a-b-2.false)
