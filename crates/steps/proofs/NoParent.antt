-- A transaction whose parent is not there cannot be sent, by neither kind if it is nowhere.
-- Assumes nothing.
use Rattle.laws.proofs.Prelude.{ℕ, ◌≡◌, refl, sym, ◌∙◌, Bool, true, false, List, eqb, eqb-true, bit_or, either, or_parts, or_right, clash, fails_by, first_failing, passed}
use Rattle.laws.proofs.Prelude.{bit, bit_or_lem}
use Rattle.sheet.specs.Refusal.{accepted}
use Rattle.sheet.specs.Field.{parent, opening}
use Rattle.slots.specs.declared.Slot.{Slot}
use Rattle.slots.specs.Ancestry.{has_parent}
use Rattle.slots.specs.Destination.{is_payee}
use Rattle.steps.specs.declared.View.{View}
use Rattle.steps.specs.Forms.View.{sent_set, placed_set}
use Rattle.steps.specs.Forms.Sending.{send_tests_in, pool_tests_in, miner_tests_in, pays_in}

-- in the pool, in the block or confirmed
abbrev somewhere : View → ℕ
somewhere v = bit_or v.pool (placed_set v)

-- a larger set has the parent too
wider : (s : List ℕ) (m n t : ℕ) → ((k : ℕ) → bit m k ≡ true → bit n k ≡ true) → has_parent s (bit m) t ≡ true → has_parent s (bit n) t ≡ true
unfolding has_parent
wider s m n t f h =
    either (or_parts (opening s t) (bit m (parent s t)) h) (λ y. rw y) (λ y. or_right (opening s t) (bit n (parent s t)) (f (parent s t) y))

placed_somewhere : (v : View) (k : ℕ) → bit (placed_set v) k ≡ true → bit (somewhere v) k ≡ true
placed_somewhere v k h = bit_or_lem v.pool (placed_set v) k ∙ or_right (bit v.pool k) (bit (placed_set v) k) h

sent_somewhere : (v : View) (k : ℕ) → bit (sent_set v) k ≡ true → bit (somewhere v) k ≡ true
unfolding sent_set placed_set
sent_somewhere v k h =
    either (or_parts (bit v.pool k) (bit v.confirmed k) (sym (bit_or_lem v.pool v.confirmed k) ∙ h))
    (λ y. bit_or_lem v.pool (placed_set v) k ∙ rw y)
    (λ y. placed_somewhere v k (bit_or_lem v.block v.confirmed k ∙ or_right (bit v.block k) (bit v.confirmed k) y))

-- without its parent in the set that the kind looks at, whatever the other tests say
module _ (allowed : Bool) (s u : List ℕ) (v : View) (x : Slot) (since party t d : ℕ) where
  pub pool_orphan : has_parent s (bit (sent_set v)) t ≡ false → eqb (first_failing (pool_tests_in allowed s u v x since party t d)) accepted ≡ false
  unfolding pool_tests_in send_tests_in
  pool_orphan none =
      fails_by (eqb (first_failing (pool_tests_in allowed s u v x since party t d)) accepted) (λ e. clash (passed _ refl (eqb-true _ accepted e) 15) none)

  pub miner_orphan : has_parent s (bit (placed_set v)) t ≡ false → eqb (first_failing (miner_tests_in allowed s u v x since party t d)) accepted ≡ false
  unfolding miner_tests_in send_tests_in
  miner_orphan none =
      fails_by (eqb (first_failing (miner_tests_in allowed s u v x since party t d)) accepted) (λ e. clash (passed _ refl (eqb-true _ accepted e) 15) none)

pub pays_none : (allowed : Bool) (s u : List ℕ) (v : View) (x : Slot) (since party t : ℕ) → has_parent s (bit (somewhere v)) t ≡ false
    → is_payee s t party ≡ true → false ≡ pays_in allowed s u v x since party t
unfolding pays_in
pays_none allowed s u v x since party t none y =
    let sent = fails_by (has_parent s (bit (sent_set v)) t) (λ e. clash (wider s (sent_set v) (somewhere v) t (sent_somewhere v) e) none) in
    let placed = fails_by (has_parent s (bit (placed_set v)) t) (λ e. clash (wider s (placed_set v) (somewhere v) t (placed_somewhere v) e) none) in
    rw (y, pool_orphan allowed s u v x since party t party sent, miner_orphan allowed s u v x since party t party placed)
