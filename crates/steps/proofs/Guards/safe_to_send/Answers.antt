-- Not Alice, or refund_1, or the others.
use Rattle.laws.proofs.Prelude.{tests}
use Rattle.steps.specs.Conduct.{safe_to_send_rule}
use Rattle.steps.proofs.Guards.safe_to_send.Goals as goal

pub returns-then-party-ne0 : goal.returns-then-party-ne0
unfolding safe_to_send_rule
returns-then-party-ne0 c = simp (tests, c.if-party-ne0.true)

pub returns-then-t-eq-REFUND_1 : goal.returns-then-t-eq-REFUND_1
unfolding safe_to_send_rule
returns-then-t-eq-REFUND_1 c = simp (tests, c.if-party-ne0.false, c.if-t-eq-REFUND_1.true)

pub returns : goal.returns
unfolding safe_to_send_rule
returns c = simp (tests, c.if-party-ne0.false, c.if-t-eq-REFUND_1.false, c.secret_safe.ensures)
