-- By the own lock.
use Rattle.prospect.specs.Forms.Thresholds.{late_from}
use Rattle.laws.proofs.Prelude.{◌∙◌}
use Rattle.prospect.proofs.threshold.late_since.Goals as goal

pub returns-then-since : goal.returns-then-since
unfolding late_from
returns-then-since c = rw c.if-since.true (c.height_if-then-since.ensures ∙ rw c.height_if.ensures)

pub returns : goal.returns
unfolding late_from
returns c = rw c.if-since.false (c.height_if-2.ensures ∙ rw c.later.ensures)
