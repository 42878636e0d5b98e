-- Itself for another than X, any other for any.
use Rattle.prospect.specs.Forms.Tables.{waits_in}
use Rattle.laws.specs.Booleans.{tests}
use Rattle.prospect.proofs.rival.waits_at.Goals as goal

pub returns-then-r-t : goal.returns-then-r-t
unfolding waits_in
returns-then-r-t c = simp (tests, c.if-r-t.true, c.has.ensures)

pub returns : goal.returns
unfolding waits_in
returns c = simp (tests, c.if-r-t.false, c.has-2.ensures)
