-- The bit of 4 in its status.
use Rattle.readings.specs.Reported.{reported_status, reported_confirmed}
use Rattle.readings.proofs.reported.confirmed.Goals as goal

pub returns : goal.returns
unfolding reported_confirmed reported_status
returns c = c.has.ensures
