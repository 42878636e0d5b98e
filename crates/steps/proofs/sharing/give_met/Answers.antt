-- The giver's bit, and not the receiver's.
use Rattle.steps.specs.Tests.{give_met_rule}
use Rattle.steps.proofs.sharing.give_met.Goals as goal

pub returns-then-has : goal.returns-then-has
unfolding give_met_rule
returns-then-has c = rw (← c.has.ensures, c.if-has.true, c.has-then-has.ensures)

pub returns : goal.returns
unfolding give_met_rule
returns c = rw (← c.has.ensures, c.if-has.false)
