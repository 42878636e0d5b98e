-- By destination number; the other fields stay.
use Rattle.laws.specs.Booleans.{tests}
use Rattle.slots.specs.Slot.{with_shared}
use Rattle.slots.proofs.Slot.with_shared.Goals as goal

pub returns-then-destination-eq0 : goal.returns-then-destination-eq0
unfolding with_shared
returns-then-destination-eq0 c = rw c.if-destination-eq0.true

pub returns-then-destination-eq1 : goal.returns-then-destination-eq1
unfolding with_shared
returns-then-destination-eq1 c = rw c.if-destination-eq1.true

pub returns-then-destination-eq2 : goal.returns-then-destination-eq2
unfolding with_shared
returns-then-destination-eq2 c = rw c.if-destination-eq2.true

pub returns-then-destination-eq3 : goal.returns-then-destination-eq3
unfolding with_shared
returns-then-destination-eq3 c = rw c.if-destination-eq3.true

pub returns-else-destination-eq3 : goal.returns-else-destination-eq3
unfolding with_shared
returns-else-destination-eq3 c = simp (tests, c.if-destination-eq0.false, c.if-destination-eq1.false, c.if-destination-eq2.false, c.if-destination-eq3.false)
