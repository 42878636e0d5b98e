-- The four bytes from place i on.
use Rattle.call_blocks.specs.Forms.Listed.{listed_at}
use Rattle.call_blocks.proofs.block_list.listed_at.Goals as goal

pub returns : goal.returns
unfolding listed_at
returns c = rw c.u16_at.ensures
