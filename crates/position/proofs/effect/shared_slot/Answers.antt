-- The slot with a mark, and what is shared.
use Rattle.position.proofs.effect.shared_slot.Goals as goal

pub returns : goal.returns
returns c = rw (c.with_mark.ensures, c.with_shared-y.ensures, c.share_mask-mask.ensures)
