-- The cases.
use Rattle.call_slack.specs.Forms.Counted.{longer}
use Rattle.soonest.specs.Soonest.{greater}
use Rattle.laws.specs.Booleans.{tests}
use Rattle.call_slack.proofs.both.longer.Goals as goal

pub returns-then-b-eq0 : goal.returns-then-b-eq0
unfolding longer
returns-then-b-eq0 c = simp (tests, c.if-b-eq0.true)

pub returns-then-b-eq-NEVER : goal.returns-then-b-eq-NEVER
unfolding longer
returns-then-b-eq-NEVER c = simp (tests, c.if-b-eq0.false, c.if-b-eq-NEVER.true)

pub returns-then-a-eq-NEVER : goal.returns-then-a-eq-NEVER
unfolding longer
returns-then-a-eq-NEVER c = simp (tests, c.if-b-eq0.false, c.if-b-eq-NEVER.false, c.if-a-eq-NEVER.true)

pub returns-then-a-b : goal.returns-then-a-b
unfolding longer greater
returns-then-a-b c = simp (tests, c.if-b-eq0.false, c.if-b-eq-NEVER.false, c.if-a-eq-NEVER.false, c.if-a-b.true)

pub returns : goal.returns
unfolding longer greater
returns c = simp (tests, c.if-b-eq0.false, c.if-b-eq-NEVER.false, c.if-a-eq-NEVER.false, c.if-a-b.false)
