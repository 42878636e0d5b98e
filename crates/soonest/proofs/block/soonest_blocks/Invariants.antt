-- The soonest blocks of the transactions before t.
use Rattle.position.specs.Position.{block_of}
use Rattle.soonest.specs.Soonest.{soonest_block}
use Rattle.soonest.specs.Forms.Bounds.{Soon}
use Rattle.soonest.specs.Forms.Table.{Filled}
use Rattle.soonest.proofs.block.soonest_blocks.Given as goal

abbrev pub invariant-loop-t : goal.invariant-loop-t
invariant-loop-t l =
    Filled (λ k x. Soon (soonest_block l.sheet.bytes l.per_day (block_of l.position) l.position.mined k) k x) l.t l.soonest
