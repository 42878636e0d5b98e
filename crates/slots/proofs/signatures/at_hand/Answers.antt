-- Needed and at hand, or not needed.
use Rattle.slots.proofs.signatures.at_hand.Goals as goal

pub returns-then-has : goal.returns-then-has
returns-then-has c = simp (← c.has.ensures, c.if-has.true, ← c.has-then-has.ensures)

pub returns : goal.returns
returns c = simp (← c.has.ensures, c.if-has.false)
