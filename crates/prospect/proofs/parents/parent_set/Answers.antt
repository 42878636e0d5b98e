-- A lower number, or none.
use Rattle.laws.specs.Booleans.{tests}
use Rattle.prospect.proofs.parents.parent_set.Goals as goal

pub returns-then-up-t : goal.returns-then-up-t
returns-then-up-t c = simp (tests, ← c.parent-up.ensures.is, c.if-up-t.true, c.join.ensures)

pub returns : goal.returns
returns c = simp (tests, ← c.parent-up.ensures.is, c.if-up-t.false)
