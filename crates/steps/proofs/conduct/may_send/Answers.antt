-- By the party, then by the phase.
use Rattle.laws.proofs.Prelude.{tests, or-false}
use Rattle.steps.specs.Conduct.{may_send}
use Rattle.steps.proofs.conduct.may_send.Goals as goal

pub returns-then-phase-eq1 : goal.returns-then-phase-eq1
unfolding may_send
returns-then-phase-eq1 c = simp (tests, c.if-party-eq0.true, c.if-phase-eq1.true, or-false)

pub returns-then-party-eq0 : goal.returns-then-party-eq0
unfolding may_send
returns-then-party-eq0 c = simp (tests, c.if-party-eq0.true, c.if-phase-eq1.false, or-false)

pub returns-then-party-eq1 : goal.returns-then-party-eq1
unfolding may_send
returns-then-party-eq1 c = simp (tests, c.if-party-eq0.false, c.if-party-eq1.true)

pub returns : goal.returns
unfolding may_send
returns c = simp (tests, c.if-party-eq0.false, c.if-party-eq1.false)
