-- The position of the empty journal.
use Rattle.claim_history.proofs.unplayed.Goals as goal

pub returns : goal.returns
returns c = rw c.start.ensures
