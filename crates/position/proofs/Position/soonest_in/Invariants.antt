-- The best of the members that were gone through.
use Rattle.slots.proofs.Walks.{Walked}
use Rattle.position.proofs.Due.{soonest_below}
use Rattle.laws.proofs.Prelude.{◌≡◌}
use Rattle.position.proofs.Position.soonest_in.Given as goal

abbrev pub invariant-loop-t : goal.invariant-loop-t
invariant-loop-t l =
    Walked l.among l.n (λ t. l.best ≡ soonest_below l.sheet.bytes l.per_day l.self l.mined l.among t) l.t-iterator.left
