-- The sum over the sets before this one.
use Rattle.laws.proofs.Prelude.{sum_below, bits_below, ◌*◌, ◌≤◌, ◌≡◌, get_or}
use Rattle.output.proofs.open.open_count.Given as goal

abbrev pub invariant-loop-set : goal.invariant-loop-set
invariant-loop-set l =
    (l.sum ≤ 32 * l.set-index) × (l.sum ≡ sum_below l.set-index (λ k. bits_below 32 (get_or l.fn.below k 0)))
