-- The members that were gone through are joined.
use Rattle.slots.proofs.Walks.{Walked}
use Rattle.position.specs.Forms.Seen.{view_joined}
use Rattle.laws.proofs.Prelude.{bit, ◌≡◌}
use Rattle.position.proofs.Position.view_over.Given as goal

abbrev pub invariant-loop-k : goal.invariant-loop-k
invariant-loop-k l =
    Walked l.members l.n (λ k. l.v ≡ view_joined k (bit l.members) l.self l.initial.v) l.k-iterator.left
