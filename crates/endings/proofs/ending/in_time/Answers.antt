-- Not planned, or no later than the last block.
use Rattle.endings.proofs.Naming.{time_out, time_in}
use Rattle.endings.proofs.ending.in_time.Goals as goal

pub returns-then-not-is_planned : goal.returns-then-not-is_planned
returns-then-not-is_planned c = time_out _ _ _ _ _ c.is_planned.ensures c.if-not-is_planned.true-raw

pub returns : goal.returns
returns c = time_in _ _ _ _ _ c.is_planned.ensures _ c.if-not-is_planned.false-raw c.earliest_block.ensures.is
