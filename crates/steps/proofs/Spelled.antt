-- What is spelled, by what its destination byte names.
-- Assumes nothing.
use Rattle.std.specs.Prelude.{None}
use Rattle.laws.proofs.Prelude.{ℕ, ◌≤◌, ◌≡◌, arith, ne_eqb}
use Rattle.slots.specs.declared.Destination.{Destination}
use Rattle.slots.specs.declared.Destination.TheVariants.{Alice, Bob, Contract, Carol}
use Rattle.slots.specs.Destination.{destination_number}
use Rattle.steps.specs.Decode.{of_kind, spelled}

module _ (k a t d : ℕ) where
  pub spelled_none : 4 ≤ d → spelled k a t d ≡ None
  unfolding spelled
  spelled_none h = simp (ne_eqb d 0 (λ e. omega (arith, h, e)), ne_eqb d 1 (λ e. omega (arith, h, e)), ne_eqb d 2 (λ e. omega (arith, h, e)), ne_eqb d 3 (λ e. omega (arith, h, e)))

  pub spelled_some : (to : Destination) → destination_number to ≡ d → spelled k a t d ≡ of_kind k a t to
  unfolding spelled destination_number
  spelled_some Alice e = rw (← e)
  spelled_some Bob e = rw (← e)
  spelled_some Contract e = rw (← e)
  spelled_some Carol e = rw (← e)
