-- A share of no signature changes nothing.
-- Assumes nothing.
use Rattle.laws.proofs.Prelude.{ℕ, ◌≡◌, refl, Bool, true, false, eqb, pick}
use lib.Bits.{or_zero_r}
use Rattle.slots.specs.declared.Slot.{Slot}
use Rattle.slots.specs.Slot.{with_shared}

pick_same : (b : Bool) (a : ℕ) → pick b a a ≡ a
pick_same true a = refl
pick_same false a = refl

pub shared_none : (d : ℕ) (x : Slot) → with_shared d 0 x ≡ x
unfolding with_shared
shared_none d x =
    rw (or_zero_r x.alice, or_zero_r x.bob, or_zero_r x.contract, or_zero_r x.carol, pick_same (eqb d 0) x.alice, pick_same (eqb d 1) x.bob, pick_same (eqb d 2) x.contract, pick_same (eqb d 3) x.carol)
