-- Positions with the parties renamed, after each change of a position.
-- Assumes nothing.
use Rattle.laws.proofs.Prelude.{ℕ, ◌^◌, ◌≤◌, ◌<◌, ◌≡◌, refl, sym, ap, ◌∙◌, fun_ext, List, eqb, ltb, length, get_or, length-set, eqb-true, eqb-false, ltb-true, ltb-false}
use Rattle.laws.proofs.Prelude.{arith, bit_or, List·getD-eq-default, get_or-set_same, get_or-set_other, set_out, pick, split, rewrite_first, length_rewrite_first}
use Rattle.position.proofs.Rules.{count, Slot, destinations, empty_slot, standing, slot, keys, in_pool, in_block, block_of, is_confirmed, sent, placed, waiting}
use Rattle.position.specs.declared.Position.{Position}
use Rattle.position.proofs.Rules.{with_slots, change_slot, change_slots, with_key, with_mined}
use Rattle.position.proofs.Changed.{one_length, one_other, one_slot, all_length, all_beyond, all_slot}
use Rattle.claim_parties.specs.Renaming.{Renaming, RenamedSlot, Renamed}
use Rattle.claim_parties.proofs.RenamedNumbers.{number_same, known, entry_standing}

-- a slot past the end stays
one_out : (t : ℕ) (f : Slot → Slot) (p : Position) → length p.slots ≤ t → (k : ℕ) → slot (change_slot t f p) k ≡ slot p k
unfolding change_slot with_slots slot
one_out t f p h k = rw (set_out p.slots t (f (get_or p.slots t empty_slot)) h)

all_out : (s : List ℕ) (f : ℕ → Slot → Slot) (p : Position) (k : ℕ) → length p.slots ≤ k → slot (change_slots s f p) k ≡ slot p k
unfolding change_slots with_slots slot
all_out s f p k h =
    List·getD-eq-default (rewrite_first (count s) f p.slots) empty_slot {n = k} (rw (length_rewrite_first (count s) f p.slots) h)
    ∙ sym (List·getD-eq-default p.slots empty_slot {n = k} h)

-- the keys after one is given
key_with : (p : Position) (d i a : ℕ) → length p.keys ≡ 6 → d < destinations
    → keys (with_key d i p) a ≡ pick (eqb a d) (bit_or (keys p d) (2 ^ i)) (keys p a)
unfolding with_key keys
key_with p d i a e l =
    split (eqb a d)
    (λ y. rw (y, eqb-true a d y) (get_or-set_same p.keys d (bit_or (get_or p.keys d 0) (2 ^ i)) 0 (omega (arith, e, l))))
    (λ y. rw y (get_or-set_other p.keys d a (bit_or (get_or p.keys d 0) (2 ^ i)) 0 (eqb-false a d y)))

module _ (ρ : Renaming) (p q : Position) (r : Renamed ρ p q) where
  -- what a position says of each transaction but for destinations
  pub pool_same : in_pool q ≡ in_pool p
  unfolding in_pool
  pool_same = fun_ext (λ t. ap standing (r.slots_same t).pools ∙ entry_standing ρ (slot p t).pool)

  pub block_same : in_block q ≡ in_block p
  unfolding in_block
  block_same = fun_ext (λ t. ap standing (r.slots_same t).blocks ∙ entry_standing ρ (slot p t).block)

  pub heights_same : block_of q ≡ block_of p
  unfolding block_of
  heights_same = fun_ext (λ t. (r.slots_same t).heights)

  pub confirmed_same : is_confirmed q ≡ is_confirmed p
  unfolding is_confirmed
  confirmed_same = fun_ext (λ t. rw heights_same)

  pub sent_same : sent q ≡ sent p
  unfolding sent
  sent_same = fun_ext (λ t. rw (pool_same, confirmed_same))

  pub placed_same : placed q ≡ placed p
  unfolding placed
  placed_same = fun_ext (λ t. rw (block_same, confirmed_same))

  pub waiting_same : waiting q ≡ waiting p
  unfolding waiting
  waiting_same = fun_ext (λ t. rw (pool_same, block_same))

  -- one slot changed
  module _ (t : ℕ) (f g : Slot → Slot) (h : RenamedSlot ρ (f (slot p t)) (g (slot q t))) where
    one_renamed : (k : ℕ) → RenamedSlot ρ (slot (change_slot t f p) k) (slot (change_slot t g q) k)
    one_renamed k =
        split (ltb t (length p.slots))
        (λ l.
        let m : t < length p.slots = ltb-true t (length p.slots) l in
        let n : t < length q.slots = rw r.places m in
        split (eqb k t)
        (λ y. rw (one_slot t f p m k, one_slot t g q n k, y, eqb-true k t y) h)
        (λ y. rw (one_other t f p k y, one_other t g q k y) (r.slots_same k)))
        (λ l.
        let m : length p.slots ≤ t = ltb-false t (length p.slots) l in
        let n : length q.slots ≤ t = rw r.places m in
        rw (one_out t f p m k, one_out t g q n k) (r.slots_same k))

    pub slot_changed : Renamed ρ (change_slot t f p) (change_slot t g q)
    unfolding change_slot with_slots keys
    slot_changed =
        record {
          slots_same = one_renamed;
          keys_same = r.keys_same;
          mined_same = r.mined_same;
          places = one_length t g q ∙ r.places ∙ sym (one_length t f p);
          keys_here = r.keys_here;
          keys_there = r.keys_there;
        }

  -- the slots of a sheet's transactions changed
  module _ (s : List ℕ) (f g : ℕ → Slot → Slot) (h : (t : ℕ) → RenamedSlot ρ (f t (slot p t)) (g t (slot q t))) where
    all_renamed : (k : ℕ) → RenamedSlot ρ (slot (change_slots s f p) k) (slot (change_slots s g q) k)
    all_renamed k =
        split (ltb k (count s))
        (λ c.
        let b : k < count s = ltb-true k (count s) c in
        split (ltb k (length p.slots))
        (λ l.
        let m : k < length p.slots = ltb-true k (length p.slots) l in
        let n : k < length q.slots = rw r.places m in
        rw (all_slot s f p k b m, all_slot s g q k b n) (h k))
        (λ l.
        let m : length p.slots ≤ k = ltb-false k (length p.slots) l in
        let n : length q.slots ≤ k = rw r.places m in
        rw (all_out s f p k m, all_out s g q k n) (r.slots_same k)))
        (λ c.
        let b : count s ≤ k = ltb-false k (count s) c in
        rw (all_beyond s f p k b, all_beyond s g q k b) (r.slots_same k))

    pub slots_changed : Renamed ρ (change_slots s f p) (change_slots s g q)
    unfolding change_slots with_slots keys
    slots_changed =
        record {
          slots_same = all_renamed;
          keys_same = r.keys_same;
          mined_same = r.mined_same;
          places = all_length s g q ∙ r.places ∙ sym (all_length s f p);
          keys_here = r.keys_here;
          keys_there = r.keys_there;
        }

  pub mined_changed : (m m' : ℕ) → m' ≡ m → Renamed ρ (with_mined m p) (with_mined m' q)
  unfolding with_mined slot keys
  mined_changed m m' h =
      record {
        slots_same = r.slots_same;
        keys_same = r.keys_same;
        mined_same = h;
        places = r.places;
        keys_here = r.keys_here;
        keys_there = r.keys_there;
      }

  -- a key given
  module _ (d i : ℕ) (l : d < destinations) where
    key_renamed : (a : ℕ) → a < destinations → keys (with_key (ρ.to d) i q) (ρ.to a) ≡ keys (with_key d i p) a
    key_renamed a m =
        key_with q (ρ.to d) i (ρ.to a) r.keys_there (known ρ d l)
        ∙ rw (number_same ρ a d, r.keys_same d l, r.keys_same a m) refl
        ∙ sym (key_with p d i a r.keys_here l)

    pub key_given : Renamed ρ (with_key d i p) (with_key (ρ.to d) i q)
    unfolding with_key slot
    key_given =
        record {
          slots_same = r.slots_same;
          keys_same = key_renamed;
          mined_same = r.mined_same;
          places = r.places;
          keys_here = length-set p.keys d _ ∙ r.keys_here;
          keys_there = length-set q.keys (ρ.to d) _ ∙ r.keys_there;
        }
