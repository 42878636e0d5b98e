-- Test by test.
use Rattle.laws.proofs.Prelude.{tests}
use Rattle.attainable.specs.Attainable.{never_sent}
use Rattle.attainable.proofs.read.never_sent.Goals as goal

pub returns-then-overdue : goal.returns-then-overdue
unfolding never_sent
returns-then-overdue c = simp (← c.overdue.ensures, c.if-overdue.true)

pub returns-then-party-ne1 : goal.returns-then-party-ne1
unfolding never_sent
returns-then-party-ne1 c = simp (tests, ← c.overdue.ensures, c.if-overdue.false, c.if-party-ne1.true)

pub returns : goal.returns
unfolding never_sent
returns c = simp (← c.overdue.ensures, c.if-overdue.false, c.if-party-ne1.false, c.forgone.ensures)
