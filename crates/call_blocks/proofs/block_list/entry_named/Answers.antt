-- Below the count, and to its destination.
use Rattle.laws.proofs.Prelude.{tests}
use Rattle.call_blocks.specs.BlockList.{entry_named}
use Rattle.call_blocks.proofs.block_list.entry_named.Goals as goal

pub returns-then-t-count : goal.returns-then-t-count
unfolding entry_named
returns-then-t-count c = simp (tests, ← c.from-t.ensures, ← c.count.ensures.is, c.if-t-count.true, ← c.shares_to.ensures)

pub returns : goal.returns
unfolding entry_named
returns c = simp (tests, ← c.from-t.ensures, ← c.count.ensures.is, c.if-t-count.false)
