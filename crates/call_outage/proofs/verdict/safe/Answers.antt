-- In the pool, and by the parent.
use Rattle.call_outage.specs.Forms.Row.{safe_in}
use Rattle.call_outage.proofs.verdict.safe.Goals as goal

pub returns-then-has : goal.returns-then-has
unfolding safe_in
returns-then-has c = simp (← c.has.ensures, c.if-has.true, c.parent_there.ensures)

pub returns : goal.returns
unfolding safe_in
returns c = simp (← c.has.ensures, c.if-has.false)
