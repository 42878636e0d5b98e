-- The pool entry, else the block.
use Rattle.laws.specs.Booleans.{tests}
use Rattle.slots.specs.Slot.{standing}
use Rattle.position.proofs.conduct.is_sent.Goals as goal

pub returns-then-x-gt0 : goal.returns-then-x-gt0
unfolding standing
returns-then-x-gt0 c = simp (tests, c.if-x-gt0.true)

pub returns : goal.returns
unfolding standing
returns c = simp (tests, c.if-x-gt0.false)
