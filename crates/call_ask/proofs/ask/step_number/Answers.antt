-- Four bytes as a step, or 11.
use Rattle.position.specs.Forms.Journal.{step_at}
use Rattle.call_ask.specs.Ask.{step_of}
use Rattle.call_ask.proofs.Asks.{number_four, number_other}
use Rattle.call_ask.proofs.ask.step_number.Goals as goal

pub returns-then-step-ne4 : goal.returns-then-step-ne4
returns-then-step-ne4 c = number_other _ _ _ _ c.if-step-ne4.true

pub returns : goal.returns
unfolding step_at step_of
returns c = rw c.step_at-stepped.ensures (number_four _ _ _ _ c.if-step-ne4.false)
