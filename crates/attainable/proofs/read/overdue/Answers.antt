-- Without stealth, by the deadline.
use Rattle.laws.proofs.Prelude.{tests}
use Rattle.attainable.specs.Attainable.{overdue}
use Rattle.attainable.proofs.read.overdue.Goals as goal

pub returns-then-stealth-ne0 : goal.returns-then-stealth-ne0
unfolding overdue
returns-then-stealth-ne0 c = simp (tests, ← c.stealth.ensures, c.if-stealth-ne0.true)

pub returns : goal.returns
unfolding overdue
returns c = simp (tests, ← c.stealth.ensures, c.if-stealth-ne0.false, ← c.deadline_in.ensures.is, ← c.from.ensures)
