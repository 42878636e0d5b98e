-- The least of what counts at the rivals. The best of those below k.
use Rattle.soonest.specs.Soonest.{counts_at}
use Rattle.laws.proofs.Prelude.{least_below, ◌≡◌}
use Rattle.position.proofs.Rules.{conflict, never}
use Rattle.soonest.proofs.deadline.soonest_deadline.Given as goal

abbrev pub invariant-loop-k : goal.invariant-loop-k
invariant-loop-k l =
    l.best ≡ least_below l.k (λ j. conflict l.sheet.bytes j l.t) (counts_at l.sheet.bytes l.per_day (λ i. l.since) l.e l.t) never
