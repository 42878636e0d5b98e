-- By the stealth, then by the pool.
use Rattle.laws.specs.Booleans.{tests}
use Rattle.prospect.proofs.table.late_until.Goals as goal

pub returns-then-marks-ne0 : goal.returns-then-marks-ne0
returns-then-marks-ne0 c = simp (tests, c.if-marks-ne0.true)

pub returns-then-has : goal.returns-then-has
returns-then-has c = simp (c.if-marks-ne0.false, ← c.has.ensures, c.if-has.true)

pub returns : goal.returns
returns c = simp (c.if-marks-ne0.false, ← c.has.ensures, c.if-has.false, c.least_late.ensures)
