-- The opening, or that of its parent, which is a lower number.
use Rattle.readings.proofs.Holders.{coin_step}
use Rattle.laws.proofs.Prelude.{tests}
use Rattle.readings.proofs.holder.+coin_from.Goals as goal

pub returns-then-opening : goal.returns-then-opening
returns-then-opening t c = rw coin_step (simp (← c.opening.ensures, c.if-opening.true))

pub returns-then-up-t : goal.returns-then-up-t
returns-then-up-t t c = rw coin_step (simp (tests, ← c.opening.ensures, c.if-opening.false, ← c.parent-up.ensures.is, c.if-up-t.true, ← c.coin_from.ensures))

pub returns-else-up-t : goal.returns-else-up-t
returns-else-up-t t c = rw coin_step (simp (tests, ← c.opening.ensures, c.if-opening.false, ← c.parent-up.ensures.is, c.if-up-t.false))
