-- Over the parent's block, or over block 1.
use Rattle.endings.proofs.Locks.{block_below, block_first}
use Rattle.endings.proofs.block.+earliest_block.Goals as goal

pub returns-then-up-t : goal.returns-then-up-t
returns-then-up-t t c = record {
  is = block_below _ _ _ _ c.parent-up.ensures.is _ _ c.if-up-t.true c.earliest_block-above.ensures.is c.earliest_from.ensures.is;
  small = c.earliest_from.ensures.small;
}

pub returns : goal.returns
returns t c = record { is = block_first _ _ _ _ c.parent-up.ensures.is _ c.if-up-t.false c.earliest_from-2.ensures.is; small = c.earliest_from-2.ensures.small }
