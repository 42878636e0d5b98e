-- Over the parent's block, or over block 1: a parent is a lower number.
use Rattle.endings.proofs.block.+earliest_block.Given as goal

abbrev pub decreases-earliest_block : goal.decreases-earliest_block
decreases-earliest_block l = l.t
