-- A row of the report.
use Rattle.readings.specs.Reported.{reported_status, reported_payee, reported_line}
use Rattle.printed.proofs.transaction_line.Goals as goal

pub returns : goal.returns
unfolding reported_line reported_status reported_payee
returns c = rw (c.u32_at.ensures, c.u32_at-2.ensures, c.u32_at-3.ensures)
