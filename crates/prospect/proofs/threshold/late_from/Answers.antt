-- By the parent, then by the lock of the rival.
use Rattle.prospect.specs.Forms.Thresholds.{late_from}
use Rattle.prospect.proofs.threshold.late_from.Goals as goal

pub returns-then-fixed : goal.returns-then-fixed
unfolding late_from
returns-then-fixed c = rw c.if-fixed.true c.height_if.ensures

pub returns-then-moves : goal.returns-then-moves
unfolding late_from
returns-then-moves c = rw (c.if-fixed.false, c.if-moves.true) c.late_since.ensures

pub returns : goal.returns
unfolding late_from
returns c = rw (c.if-fixed.false, c.if-moves.false) c.late_apart.ensures
