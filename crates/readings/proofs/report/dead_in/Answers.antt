-- Not confirmed, and its line meets the set.
use Rattle.readings.specs.Forms.Report.{dead_in}
use Rattle.readings.proofs.report.dead_in.Goals as goal

pub returns-then-has : goal.returns-then-has
unfolding dead_in
returns-then-has c = rw (← c.has.ensures, c.if-has.true)

pub returns : goal.returns
unfolding dead_in
returns c = rw (← c.has.ensures, c.if-has.false) c.in_ancestry.ensures
