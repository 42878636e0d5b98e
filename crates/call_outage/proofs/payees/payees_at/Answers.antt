-- Of the line, or none.
use Rattle.call_outage.proofs.payees.payees_at.Goals as goal

pub returns-then-has : goal.returns-then-has
returns-then-has c = simp (← c.has.ensures, c.if-has.true, c.payees.ensures)

pub returns : goal.returns
returns c = simp (← c.has.ensures, c.if-has.false)
