-- By the parent, then by the lock of the rival.
use Rattle.prospect.specs.Forms.Thresholds.{sooner_above}
use Rattle.prospect.proofs.threshold.sooner_above.Goals as goal

pub returns-then-fixed : goal.returns-then-fixed
unfolding sooner_above
returns-then-fixed c = rw c.if-fixed.true

pub returns-then-moves : goal.returns-then-moves
unfolding sooner_above
returns-then-moves c = rw (c.if-fixed.false, c.if-moves.true) c.height_if.ensures

pub returns : goal.returns
unfolding sooner_above
returns c = rw (c.if-fixed.false, c.if-moves.false)
