-- An opening whose lock is below its block.
use Rattle.call_blocks.proofs.Keeping.{opens_right, opens_wrong}
use Rattle.call_blocks.proofs.kept.opens.Goals as goal

pub returns-then-opening : goal.returns-then-opening
returns-then-opening c = opens_right _ _ c.requires.checked _ _ c.requires.transaction_bound c.from-t.ensures _ _ _ c.opening.ensures c.if-opening.true c.lock_height.ensures.is c.from.ensures

pub returns : goal.returns
returns c = opens_wrong _ _ c.requires.checked _ _ c.requires.transaction_bound c.from-t.ensures _ c.opening.ensures c.if-opening.false
