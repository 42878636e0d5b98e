-- The sum of its four parts.
use Rattle.readings.specs.Forms.Report.{status_in}
use Rattle.readings.proofs.report.status_in.Goals as goal

pub returns : goal.returns
unfolding status_in
returns c = rw (c.part-dead.ensures.0, c.dead_in.ensures, c.part-confirmed.ensures.0, c.has-3.ensures, c.part-block.ensures.0, c.has-2.ensures, c.part-pool.ensures.0, c.has.ensures)
