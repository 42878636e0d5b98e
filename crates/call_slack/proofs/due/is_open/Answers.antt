-- The number of the step that the four bytes are.
use Rattle.position.specs.Forms.Journal.{step_at}
use Rattle.call_slack.specs.Row.{is_open}
use Rattle.call_slack.proofs.due.is_open.Goals as goal

pub returns : goal.returns
unfolding step_at is_open
returns c = rw (c.step_at-stepped.ensures, ← c.requires.to_value)
