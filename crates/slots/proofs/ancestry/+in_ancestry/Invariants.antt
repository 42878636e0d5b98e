-- A transaction's line: itself, and the line of its parent, which is a lower number.
use Rattle.slots.proofs.ancestry.+in_ancestry.Given as goal

abbrev pub decreases-in_ancestry : goal.decreases-in_ancestry
decreases-in_ancestry l = l.t
