-- The parent is unconfirmed, the one lock is not since it, the other is.
use Rattle.soonest.specs.Soonest.{may_rise}
use Rattle.laws.proofs.Prelude.{tests}
use Rattle.soonest.proofs.deadline.may_rise.Goals as goal

pub returns-then-since-ne0 : goal.returns-then-since-ne0
unfolding may_rise
returns-then-since-ne0 c = simp (tests, c.if-since-ne0.true)

pub returns-then-since_locked : goal.returns-then-since_locked
unfolding may_rise
returns-then-since_locked c = simp (tests, c.if-since-ne0.false, ← c.since_locked.ensures, c.if-since_locked.true)

pub returns : goal.returns
unfolding may_rise
returns c = simp (tests, c.if-since-ne0.false, ← c.since_locked.ensures, c.if-since_locked.false, c.since_locked-2.ensures)
