-- The part of one step, run.
use Rattle.laws.proofs.Prelude.{refl}
use Rattle.call_run.proofs.Runs.{ran_step}
use Rattle.call_run.proofs.journal.step_at.Goals as goal

pub returns : goal.returns
returns c = ran_step _ _ _ _ _ _ _ c.requires.i_in_bounds refl c.run_from-ran.ensures
