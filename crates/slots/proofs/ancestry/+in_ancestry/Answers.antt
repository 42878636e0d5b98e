-- A transaction's line: itself, and the line of its parent, which is a lower number.
use Rattle.laws.proofs.Prelude.{tests}
use Rattle.slots.proofs.AncestrySets.{line_step, line_none}
use Rattle.slots.proofs.ancestry.+in_ancestry.Goals as goal

pub returns-then-members-eq0 : goal.returns-then-members-eq0
returns-then-members-eq0 t c = rw (c.if-members-eq0.true, line_none)

pub returns-then-has : goal.returns-then-has
returns-then-has t c = rw line_step (simp (← c.has.ensures, c.if-has.true))

pub returns-then-up-t : goal.returns-then-up-t
returns-then-up-t t c = rw line_step (simp (tests, ← c.has.ensures, c.if-has.false, ← c.parent-up.ensures.is, c.if-up-t.true, ← c.in_ancestry.ensures))

pub returns-else-up-t : goal.returns-else-up-t
returns-else-up-t t c = rw line_step (simp (tests, ← c.has.ensures, c.if-has.false, ← c.parent-up.ensures.is, c.if-up-t.false))
