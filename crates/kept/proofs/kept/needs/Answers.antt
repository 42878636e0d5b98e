-- Those that are not met, or itself.
use Rattle.kept.specs.Forms.Evaluation.{needs_over}
use Rattle.laws.specs.Booleans.{tests}
use Rattle.kept.proofs.kept.needs.Goals as goal

pub returns-then-aim-fails : goal.returns-then-aim-fails
unfolding needs_over
returns-then-aim-fails c = simp (tests, c.if-aim-fails.true) c.unmet.ensures

pub returns : goal.returns
unfolding needs_over
returns c = simp (tests, c.if-aim-fails.false) c.join.ensures
