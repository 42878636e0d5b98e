-- The confirmation's destination, or 255.
use Rattle.readings.specs.Forms.Report.{payee_in}
use Rattle.laws.proofs.Prelude.{tests}
use Rattle.readings.proofs.report.payee_of.Goals as goal

pub returns-then-x-gt0 : goal.returns-then-x-gt0
unfolding payee_in
returns-then-x-gt0 c = simp (tests, c.if-x-gt0.true, ← c.entry_to.ensures)

pub returns : goal.returns
unfolding payee_in
returns c = simp (tests, c.if-x-gt0.false)
