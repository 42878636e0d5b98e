-- In the tests' order.
use Rattle.call_outage.specs.Verdict.{is_covered}
use Rattle.laws.proofs.Prelude.{tests, not-true, not-false}
use Rattle.call_outage.proofs.verdict.covered.Goals as goal

pub returns-then-not-within : goal.returns-then-not-within
unfolding is_covered
returns-then-not-within c = simp (← c.within.ensures, not-true c.within.result c.if-not-within.true-raw)

pub returns-then-mined-deadline : goal.returns-then-mined-deadline
unfolding is_covered
returns-then-mined-deadline c = simp (tests, ← c.within.ensures, not-false c.within.result c.if-not-within.false-raw, c.if-mined-deadline.true)

pub returns : goal.returns
unfolding is_covered
returns c = simp (tests, ← c.within.ensures, not-false c.within.result c.if-not-within.false-raw, c.if-mined-deadline.false)
