-- Run with the view of the position.
use Rattle.call_run.proofs.journal.run_from.Goals as goal

pub returns : goal.returns
returns c = c.run_seen.ensures
