-- By party number.
use Rattle.laws.specs.Booleans.{tests}
use Rattle.slots.specs.Slot.{marks_of}
use Rattle.slots.proofs.Slot.marks.Goals as goal

pub returns-then-party-eq0 : goal.returns-then-party-eq0
unfolding marks_of
returns-then-party-eq0 c = rw c.if-party-eq0.true

pub returns-then-party-eq1 : goal.returns-then-party-eq1
unfolding marks_of
returns-then-party-eq1 c = rw c.if-party-eq1.true

pub returns-then-party-eq3 : goal.returns-then-party-eq3
unfolding marks_of
returns-then-party-eq3 c = rw c.if-party-eq3.true

pub returns : goal.returns
unfolding marks_of
returns c = simp (tests, c.if-party-eq0.false, c.if-party-eq1.false, c.if-party-eq3.false)
