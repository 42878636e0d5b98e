-- Allowed, and not held back.
use Rattle.steps.specs.Forms.Conduct.{send_held_in}
use Rattle.laws.proofs.Prelude.{not-true, not-false}
use Rattle.steps.proofs.Guards.send_held.Goals as goal

pub returns-then-not-send_allowed : goal.returns-then-not-send_allowed
unfolding send_held_in
returns-then-not-send_allowed c = rw (← c.send_allowed.ensures, not-true c.send_allowed.result c.if-not-send_allowed.true-raw)

pub returns-then-not-paying : goal.returns-then-not-paying
unfolding send_held_in
returns-then-not-paying c = rw (← c.send_allowed.ensures, not-false c.send_allowed.result c.if-not-send_allowed.false-raw, not-true c.args.paying c.if-not-paying.true-raw)

pub returns : goal.returns
unfolding send_held_in
returns c = rw (← c.send_allowed.ensures, not-false c.send_allowed.result c.if-not-send_allowed.false-raw, not-false c.args.paying c.if-not-paying.false-raw, c.is_contract.ensures)
