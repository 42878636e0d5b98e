-- One step, and what it adds.
use Rattle.laws.proofs.Prelude.{arith}
use Rattle.claim_history.specs.Forms.Steps.{played_one}
use Rattle.claim_history.proofs.Playing.{one_or_none, one_at_most}
use Rattle.claim_history.proofs.play.play_one.Goals as goal

pub step_at-stepped-requires : goal.step_at-stepped-requires
unfolding played_one
step_at-stepped-requires c = record { fit = c.requires.fit; i_in_bounds = c.requires.i_in_bounds }

pub overflow_add-accepted : goal.overflow_add-accepted
unfolding played_one
overflow_add-accepted c = omega (arith, one_at_most _ _ c.from.ensures, c.requires.i_in_bounds, c.requires.accepted_le_i)

pub returns : goal.returns
unfolding played_one
returns c = rw (c.from.ensures, one_or_none _, c.step_at-stepped.ensures)
