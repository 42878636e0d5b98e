-- The least over the rivals below r.
use Rattle.laws.specs.Mask.{bit}
use Rattle.laws.specs.Least.{least_below}
use Rattle.laws.proofs.Prelude.{◌≡◌, get_or}
use Rattle.kept.specs.Forms.Prospect.{none}
use Rattle.prospect.specs.Forms.Tables.{late_at}
use Rattle.prospect.proofs.rival.least_late.Given as goal

abbrev pub invariant-loop-r : goal.invariant-loop-r
invariant-loop-r l =
    l.best ≡ least_below l.r (bit (get_or l.marks.rivals l.t 0)) (late_at l.marks l.t) none
