-- The opening, or that of its parent, which is a lower number.
use Rattle.readings.proofs.holder.+coin_from.Given as goal

abbrev pub decreases-coin_from : goal.decreases-coin_from
decreases-coin_from l = l.t
