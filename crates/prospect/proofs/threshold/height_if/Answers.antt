-- By the test.
use Rattle.prospect.specs.Forms.Thresholds.{height_if}
use Rattle.prospect.proofs.threshold.height_if.Goals as goal

pub returns-then-on : goal.returns-then-on
unfolding height_if
returns-then-on c = rw c.if-on.true

pub returns-else-on : goal.returns-else-on
unfolding height_if
returns-else-on c = rw c.if-on.false
