-- Phase, transaction, refund_1, and the time.
use Rattle.laws.proofs.Prelude.{eq-eqb, not-true, not-false, tests}
use Rattle.steps.specs.Conduct.{alice_shares_rule}
use Rattle.steps.proofs.Guards.alice_shares.Goals as goal

pub returns-then-self-ne3 : goal.returns-then-self-ne3
unfolding alice_shares_rule
returns-then-self-ne3 c = simp (tests, c.if-self-ne3.true)

pub returns-then-t-ne-SUCCESS_BYTE : goal.returns-then-t-ne-SUCCESS_BYTE
unfolding alice_shares_rule
returns-then-t-ne-SUCCESS_BYTE c = simp (tests, c.if-self-ne3.false, c.if-t-ne-SUCCESS_BYTE.true)

pub returns-then-not-self : goal.returns-then-not-self
unfolding alice_shares_rule
returns-then-not-self c = rw (eq-eqb _ _ c.if-self-ne3.false, eq-eqb _ _ c.if-t-ne-SUCCESS_BYTE.false, not-true c.args.self.refund c.if-not-self.true)

pub returns-else-not-self : goal.returns-else-not-self
unfolding alice_shares_rule
returns-else-not-self c = rw (eq-eqb _ _ c.if-self-ne3.false, eq-eqb _ _ c.if-t-ne-SUCCESS_BYTE.false, not-false c.args.self.refund c.if-not-self.false)
