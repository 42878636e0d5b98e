-- By the stealth.
use Rattle.prospect.specs.Forms.Tables.{held}
use Rattle.laws.specs.Booleans.{tests}
use Rattle.prospect.proofs.rival.held.Goals as goal

pub returns-then-marks-ne0 : goal.returns-then-marks-ne0
unfolding held
returns-then-marks-ne0 c = simp (tests, c.if-marks-ne0.true)

pub returns : goal.returns
unfolding held
returns c = simp (c.if-marks-ne0.false, c.has.ensures)
