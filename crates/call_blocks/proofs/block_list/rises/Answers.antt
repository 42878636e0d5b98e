-- Within the blocks, and behind the last one.
use Rattle.call_blocks.proofs.block_list.rises.Goals as goal

pub returns-then-block_within : goal.returns-then-block_within
returns-then-block_within c = simp (← c.block_within.ensures, c.if-block_within.true, ← c.before-then-block_within.ensures)

pub returns : goal.returns
returns c = simp (← c.block_within.ensures, c.if-block_within.false)
