-- The empty journal's position, slot by slot, and its view.
-- Assumes nothing.
use Rattle.laws.proofs.Prelude.{ℕ, zero, suc, ◌≡◌, refl, ap, false, List, ltb, length, replicate, ltb-true, ltb-false, get_or-replicate, List·getD-eq-default, split}
use Rattle.laws.proofs.Prelude.{union_below, none_set}
use lib.ListN.{length-replicate}
use Rattle.slots.specs.declared.Slot.{Slot}
use Rattle.slots.specs.Slot.{empty_slot, standing, shared_any, shared_for}
use Rattle.slots.specs.Forms.Expiring.{expiring_set}
use Rattle.position.specs.Forms.View.{view_below}
use Rattle.position.specs.Position.{slot_count, start, slot, in_pool, in_block, block_of, is_confirmed}

-- every slot is empty
pub start_slot : (s : List ℕ) (t : ℕ) → slot (start s) t ≡ empty_slot
unfolding slot start
start_slot s t =
    split (ltb t slot_count)
    (λ y. get_or-replicate slot_count t empty_slot empty_slot (ltb-true t slot_count y))
    (λ y. List·getD-eq-default (replicate slot_count empty_slot) empty_slot {n = t} (rw (length-replicate slot_count empty_slot) (ltb-false t slot_count y)))

pub start_length : (s : List ℕ) → length (start s).slots ≡ slot_count
unfolding start
start_length s = refl

pub start_mined : (s : List ℕ) → (start s).mined ≡ 0
unfolding start
start_mined s = refl

-- nothing is shared
none_shared : (s : List ℕ) (n : ℕ) → union_below n (λ k. shared_any (slot (start s) k)) ≡ 0
unfolding union_below shared_any shared_for
none_shared s zero = refl
none_shared s (suc n) = rw (none_shared s n, start_slot s n)

-- nor does anything stand, or is confirmed
module _ (s : List ℕ) (t : ℕ) where
  none_pooled : in_pool (start s) t ≡ false
  unfolding in_pool standing
  none_pooled = ap (λ (x : Slot). standing x.pool) (start_slot s t)

  none_blocked : in_block (start s) t ≡ false
  unfolding in_block standing
  none_blocked = ap (λ (x : Slot). standing x.block) (start_slot s t)

  none_confirmed : is_confirmed (start s) t ≡ false
  unfolding is_confirmed block_of
  none_confirmed = ap (λ (x : Slot). ltb 0 x.height) (start_slot s t)

-- its view, where m has those that can have a deadline and k the keys held
pub start_seen : (s k : List ℕ) (n m : ℕ) → m ≡ expiring_set s → k ≡ (start s).keys
    → record { pool = 0; block = 0; confirmed = 0; expiring = m; mined = 0; shared = 0; keys = k } ≡ view_below s n (start s)
unfolding view_below
start_seen s k n m e f =
    let a = none_set n (in_pool (start s)) (λ t l. none_pooled s t) in
    let b = none_set n (in_block (start s)) (λ t l. none_blocked s t) in
    let c = none_set n (is_confirmed (start s)) (λ t l. none_confirmed s t) in
    rw (a, b, c, none_shared s n, start_mined s, e, f)
