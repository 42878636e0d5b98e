-- The same position, or the one after the step.
use Rattle.call_shrink.specs.Forms.Round.{position_past}
use Rattle.call_shrink.proofs.round.past.Goals as goal

pub returns-then-going : goal.returns-then-going
unfolding position_past
returns-then-going c = rw c.if-going.true

pub returns : goal.returns
unfolding position_past
returns c = rw (c.if-going.false, c.step_at-stepped.ensures)
