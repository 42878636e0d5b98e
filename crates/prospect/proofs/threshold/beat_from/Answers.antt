-- By the two tests.
use Rattle.prospect.specs.Forms.Thresholds.{beat_from}
use Rattle.prospect.proofs.threshold.beat_from.Goals as goal

pub returns-then-waits : goal.returns-then-waits
unfolding beat_from
returns-then-waits c = rw c.if-waits.true c.height_if.ensures

pub returns : goal.returns
unfolding beat_from
returns c = rw c.if-waits.false c.height_if-2.ensures
