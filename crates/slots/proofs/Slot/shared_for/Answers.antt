-- By destination number.
use Rattle.laws.specs.Booleans.{tests}
use Rattle.slots.specs.Slot.{shared_for}
use Rattle.slots.proofs.Slot.shared_for.Goals as goal

pub returns-then-destination-eq0 : goal.returns-then-destination-eq0
unfolding shared_for
returns-then-destination-eq0 c = rw c.if-destination-eq0.true

pub returns-then-destination-eq1 : goal.returns-then-destination-eq1
unfolding shared_for
returns-then-destination-eq1 c = rw c.if-destination-eq1.true

pub returns-then-destination-eq2 : goal.returns-then-destination-eq2
unfolding shared_for
returns-then-destination-eq2 c = rw c.if-destination-eq2.true

pub returns : goal.returns
unfolding shared_for
returns c = simp (tests, c.if-destination-eq0.false, c.if-destination-eq1.false, c.if-destination-eq2.false)
