-- A transaction's line: itself, and the line of its parent, which is a lower number.
use Rattle.slots.proofs.ancestry.+line_of.Given as goal

abbrev pub decreases-line_of : goal.decreases-line_of
decreases-line_of l = l.t
