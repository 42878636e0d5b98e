-- From 1, and to the limit.
use Rattle.laws.specs.Booleans.{tests}
use Rattle.call_blocks.specs.BlockList.{block_within}
use Rattle.call_blocks.proofs.block_list.block_within.Goals as goal

pub returns-then-entry-ge1 : goal.returns-then-entry-ge1
unfolding block_within
returns-then-entry-ge1 c = simp (tests, c.if-entry-ge1.true)

pub returns-else-entry-ge1 : goal.returns-else-entry-ge1
unfolding block_within
returns-else-entry-ge1 c = simp (tests, c.if-entry-ge1.false)
