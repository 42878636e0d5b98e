-- A transaction's line: itself, and the line of its parent, which is a lower number.
use Rattle.laws.proofs.Prelude.{tests}
use Rattle.slots.proofs.LineSets.{line_set_step}
use Rattle.slots.proofs.ancestry.+line_of.Goals as goal

pub returns-then-above-t : goal.returns-then-above-t
returns-then-above-t t c = rw line_set_step (simp (tests, ← c.parent-above.ensures.is, c.if-above-t.true, ← c.line_of.ensures, c.join.ensures))

pub returns : goal.returns
returns t c = rw line_set_step (simp (tests, ← c.parent-above.ensures.is, c.if-above-t.false, c.join-2.ensures))
