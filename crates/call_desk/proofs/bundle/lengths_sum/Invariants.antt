-- The sum of the lengths before i.
use Rattle.laws.proofs.Prelude.{◌*◌, ◌≤◌, ◌≡◌, sum_below}
use Rattle.call_desk.specs.Bundle.{length_of}
use Rattle.call_desk.proofs.bundle.lengths_sum.Given as goal

abbrev pub invariant-loop-i : goal.invariant-loop-i
invariant-loop-i l =
    (l.sum ≤ 4294967296 * l.i) × (l.sum ≡ sum_below l.i (length_of l.bundle))
