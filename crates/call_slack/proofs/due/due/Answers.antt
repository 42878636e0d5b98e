-- No slack, and one of the two steps is open.
use Rattle.call_slack.specs.Row.{is_due}
use Rattle.laws.specs.Booleans.{tests}
use Rattle.call_slack.proofs.due.due.Goals as goal

pub returns-then-blocks-ne0 : goal.returns-then-blocks-ne0
unfolding is_due
returns-then-blocks-ne0 c = simp (tests, c.if-blocks-ne0.true)

pub returns-then-is_open : goal.returns-then-is_open
unfolding is_due
returns-then-is_open c = simp (tests, c.if-blocks-ne0.false, ← c.is_open.ensures, c.if-is_open.true)

pub returns-then-is_open-2 : goal.returns-then-is_open-2
unfolding is_due
returns-then-is_open-2 c = simp (tests, c.if-blocks-ne0.false, ← c.is_open.ensures, c.if-is_open.false, ← c.is_open-2.ensures, c.if-is_open-2.true)

pub returns : goal.returns
unfolding is_due
returns c = simp (tests, c.if-blocks-ne0.false, ← c.is_open.ensures, c.if-is_open.false, ← c.is_open-2.ensures, c.if-is_open-2.false)
