-- Not needed, or not known to Alice, or spend_B.
use Rattle.steps.specs.Conduct.{secret_safe_rule}
use Rattle.laws.proofs.Prelude.{not-true, not-false}
use Rattle.steps.proofs.Guards.secret_safe.Goals as goal

pub returns-then-not-has : goal.returns-then-not-has
unfolding secret_safe_rule
returns-then-not-has c = rw (← c.required.ensures, ← c.has.ensures, not-true c.has.result c.if-not-has.true-raw)

pub returns-then-not-self : goal.returns-then-not-self
unfolding secret_safe_rule
returns-then-not-self c = rw (← c.required.ensures, ← c.has.ensures, not-false c.has.result c.if-not-has.false-raw, c.if-not-self.true)

pub returns : goal.returns
unfolding secret_safe_rule
returns c = rw (← c.required.ensures, ← c.has.ensures, not-false c.has.result c.if-not-has.false-raw, c.if-not-self.false)
