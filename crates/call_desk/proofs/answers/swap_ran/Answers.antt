-- The setup and the journal are parts of the bundle.
use Rattle.call_desk.proofs.Swaps.{run_of_parts}
use Rattle.call_desk.proofs.answers.swap_ran.Goals as goal

pub returns : goal.returns
returns c = run_of_parts _ _ _ _ _ _ c.requires.stands c.ran_checked.ensures
