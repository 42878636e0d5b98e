-- Itself, or another child of the same parent.
use Rattle.laws.proofs.Prelude.{tests}
use Rattle.position.proofs.Rules.{conflict}
use Rattle.soonest.proofs.rival.conflict.Goals as goal

pub returns-then-k-t : goal.returns-then-k-t
unfolding conflict
returns-then-k-t c = simp (tests, c.if-k-t.true)

pub returns-then-opening : goal.returns-then-opening
unfolding conflict
returns-then-opening c = simp (tests, c.if-k-t.false, ← c.opening.ensures, c.if-opening.true)

pub returns : goal.returns
unfolding conflict
returns c = simp (tests, c.if-k-t.false, ← c.opening.ensures, c.if-opening.false, ← c.parent.ensures.is, ← c.parent-2.ensures.is)
