-- Phase, signature, what Alice holds, and the time.
use Rattle.laws.proofs.Prelude.{eq-eqb, tests}
use Rattle.steps.specs.Conduct.{alice_gives_rule}
use Rattle.steps.proofs.Guards.alice_gives.Goals as goal

pub returns-then-self-ne3 : goal.returns-then-self-ne3
unfolding alice_gives_rule
returns-then-self-ne3 c = simp (tests, c.if-self-ne3.true)

pub returns-then-i-ne-SIG_ALICE : goal.returns-then-i-ne-SIG_ALICE
unfolding alice_gives_rule
returns-then-i-ne-SIG_ALICE c = simp (tests, c.if-self-ne3.false, c.if-i-ne-SIG_ALICE.true)

pub returns-then-self : goal.returns-then-self
unfolding alice_gives_rule
returns-then-self c = simp (tests, c.if-self-ne3.false, c.if-i-ne-SIG_ALICE.false, c.if-self.true)

pub returns-else-self : goal.returns-else-self
unfolding alice_gives_rule
returns-else-self c = rw (eq-eqb _ _ c.if-self-ne3.false, eq-eqb _ _ c.if-i-ne-SIG_ALICE.false, c.if-self.false)
