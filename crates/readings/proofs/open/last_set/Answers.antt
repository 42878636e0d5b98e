-- By the actor.
use Rattle.readings.specs.Forms.Context.{last_in}
use Rattle.readings.proofs.open.last_set.Goals as goal

pub returns-then-is_party : goal.returns-then-is_party
unfolding last_in
returns-then-is_party c = rw (← c.is_party.ensures, c.if-is_party.true, ← c.shares_first.ensures) c.join.ensures

pub returns : goal.returns
unfolding last_in
returns c = rw (← c.is_party.ensures, c.if-is_party.false, ← c.mines.ensures) c.join-2.ensures
