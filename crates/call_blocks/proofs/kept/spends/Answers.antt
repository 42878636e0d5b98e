-- A spend of the last one kept, whose lock is below its block.
use Rattle.call_blocks.proofs.Keeping.{spends_opening, spends_right, spends_other}
use Rattle.call_blocks.proofs.kept.spends.Goals as goal

pub returns-then-opening : goal.returns-then-opening
returns-then-opening c = spends_opening _ _ c.requires.checked _ _ c.requires.transaction_bound c.from-t.ensures _ c.requires.block_nonzero _ c.opening.ensures c.if-opening.true

pub returns-then-from-parent : goal.returns-then-from-parent
returns-then-from-parent c =
    spends_right _ _ c.requires.checked _ _ c.requires.transaction_bound c.from-t.ensures _ c.requires.block_nonzero _ c.opening.ensures _ _ _ _
    c.if-opening.false c.from.ensures c.parent.ensures.is c.if-from-parent.true
    c.lock_height.ensures.is c.from-then-from-parent.ensures

pub returns : goal.returns
returns c = spends_other _ _ c.requires.checked _ _ c.requires.transaction_bound c.from-t.ensures _ c.requires.block_nonzero _ c.opening.ensures _ _ c.if-opening.false c.from.ensures c.parent.ensures.is c.if-from-parent.false
