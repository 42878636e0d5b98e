-- Open, or in phase and, if careful, safe.
use Rattle.steps.specs.Forms.Conduct.{send_allowed_in}
use Rattle.laws.proofs.Prelude.{not-true, not-false}
use Rattle.steps.proofs.Guards.send_allowed.Goals as goal

pub returns-then-self : goal.returns-then-self
unfolding send_allowed_in
returns-then-self c = rw c.if-self.true

pub returns-then-not-may_send : goal.returns-then-not-may_send
unfolding send_allowed_in
returns-then-not-may_send c = rw (c.if-self.false, ← c.may_send.ensures, not-true c.may_send.result c.if-not-may_send.true-raw)

pub returns-then-not-self : goal.returns-then-not-self
unfolding send_allowed_in
returns-then-not-self c = rw (c.if-self.false, ← c.may_send.ensures, not-false c.may_send.result c.if-not-may_send.false-raw, c.if-not-self.true)

pub returns : goal.returns
unfolding send_allowed_in
returns c = rw (c.safe_to_send.ensures, ← c.may_send.ensures, not-false c.may_send.result c.if-not-may_send.false-raw, c.if-not-self.false, c.if-self.false)
