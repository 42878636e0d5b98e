-- Field by field.
use Rattle.readings.specs.Forms.Report.{row_in}
use Rattle.readings.proofs.report.row.Goals as goal

pub returns : goal.returns
unfolding row_in
returns c = rw (← c.payee_of.ensures, ← c.status_in.ensures, ← c.deadline.ensures.is, ← c.lock_height.ensures.is, c.from.ensures)
