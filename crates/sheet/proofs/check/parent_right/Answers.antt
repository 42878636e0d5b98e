-- The parent is none or lower: check 5.
use Rattle.sheet.specs.Check.{parent_right}
use Rattle.sheet.proofs.check.parent_right.Goals as goal

pub returns-then-opening : goal.returns-then-opening
unfolding parent_right
returns-then-opening c = simp (← c.opening.ensures, c.if-opening.true)

pub returns : goal.returns
unfolding parent_right
returns c = simp (← c.opening.ensures, c.if-opening.false, ← c.parent.ensures.is)
