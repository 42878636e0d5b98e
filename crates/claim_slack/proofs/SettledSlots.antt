-- The settled position, slot by slot: an entry that settles is confirmed in the next block for its destination, the rest stays.
-- Assumes nothing.
use Rattle.laws.proofs.Prelude.{ℕ, ◌+◌, ◌≤◌, ◌<◌, ◌≡◌, refl, sym, ap, ◌∙◌, fun_ext, true, false, not, ◌&&◌, ◌||◌, List, ◌⊎◌, inl, inr, length, get_or, pick, split, either, clash}
use Rattle.laws.proofs.Prelude.{and_parts, any_below, any_none, arith, lt-ltb, bit, not-true}
use Rattle.laws.specs.Each.{rewrite_kept}
use Rattle.position.proofs.Rules.{count, Slot, empty_slot, destinations, standing, entry_to, shared_for, with_block, with_confirmed, with_shared, exposed_mask, slot, in_pool}
use Rattle.position.specs.declared.Position.{Position}
use Rattle.position.proofs.Rules.{pool_to, in_block, block_to, block_of, is_confirmed, confirmed_to, shared, keys, confirm_entry, with_slots, change_slots}
use Rattle.position.proofs.Changed.{all_beyond, all_length, all_seen, all_kept}
use Rattle.slots.proofs.SharedBits.{shared_from, shared_kept, shared_block, shared_confirmed}
use Rattle.step_laws.proofs.AfterBlocks.{none_stands, out_block}
use Rattle.slack.specs.Settled.{throws_out, settles, settled}
use Rattle.claim_slack.proofs.Secrets.{shared_has}

module _ (s u : List ℕ) (p : Position) (x : ℕ) where
  -- an entry that settles is in the block, and nothing throws it out
  pub settles_in : (t : ℕ) → settles s u p x t ≡ true → in_block p t ≡ true
  unfolding settles
  settles_in t h = (and_parts (in_block p t) (not (any_below (count s) (throws_out s u p x t))) h).0

  pub settles_safe : (t : ℕ) → settles s u p x t ≡ true → (y : ℕ) → y < count s → throws_out s u p x t y ≡ false
  unfolding settles
  settles_safe t h =
      let w = (and_parts (in_block p t) (not (any_below (count s) (throws_out s u p x t))) h).1 in
      any_none (count s) (throws_out s u p x t) (not-true (any_below (count s) (throws_out s u p x t)) w)

  -- what becomes of a slot
  unfoldable settle : ℕ → Slot → Slot
  settle t y = pick (settles s u p x t) (confirm_entry s (p.mined + 1) t y) y

  pub settled_mined : (settled s u p x).mined ≡ p.mined
  unfolding settled change_slots with_slots
  settled_mined = refl

  pub settled_keys : keys (settled s u p x) ≡ keys p
  unfolding settled change_slots with_slots keys
  settled_keys = refl

  settle_none : (t : ℕ) (y : Slot) → settles s u p x t ≡ false → settle t y ≡ y
  unfolding settle
  settle_none t y n = rw n

  -- where nothing settles it is the position
  pub settled_none : ((t : ℕ) → settles s u p x t ≡ false) → settled s u p x ≡ p
  unfolding settled change_slots with_slots settle
  settled_none n =
      ap (λ l. record { slots = l; mined = p.mined; keys = p.keys })
      (rewrite_kept (count s) settle p.slots empty_slot (λ t l. settle_none t (get_or p.slots t empty_slot) (n t)))

  settle_pool : (t : ℕ) (y : Slot) → (settle t y).pool ≡ y.pool
  unfolding settle confirm_entry with_block with_confirmed with_shared
  settle_pool t y = split (settles s u p x t) (λ a. split (standing y.block) (λ b. rw (a, b)) (λ b. rw (a, b))) (λ a. rw a)

  pool_entry : (t : ℕ) → (slot (settled s u p x) t).pool ≡ (slot p t).pool
  unfolding settled settle
  pool_entry = all_kept s settle p (λ (y : Slot). y.pool) settle_pool

  pub settled_pool : in_pool (settled s u p x) ≡ in_pool p
  unfolding in_pool
  settled_pool = fun_ext (λ t. rw (pool_entry t))

  pub settled_pool_to : pool_to (settled s u p x) ≡ pool_to p
  unfolding pool_to
  settled_pool_to = fun_ext (λ t. rw (pool_entry t))

  module _ (few : count s ≤ length p.slots) (beyond : (k : ℕ) → count s ≤ k → slot p k ≡ empty_slot) where
    pub settles_out : (t : ℕ) → count s ≤ t → settles s u p x t ≡ false
    settles_out t h = split (settles s u p x t) (λ y. clash (settles_in t y) (out_block s p few beyond t h)) (λ n. n)

    -- a field of each slot, by whether it settles
    module _ {A : Type 0} (field : Slot → A) (then : ℕ → A)
        (is : (t : ℕ) → in_block p t ≡ true → field (confirm_entry s (p.mined + 1) t (slot p t)) ≡ then t) where
      field_is : (t : ℕ) → field (slot (settled s u p x) t) ≡ pick (settles s u p x t) (then t) (field (slot p t))
      unfolding settled settle
      field_is =
          all_seen s settle p few field (λ t. pick (settles s u p x t) (then t) (field (slot p t)))
          (λ t. split (settles s u p x t) (λ y. rw y (is t (settles_in t y))) (λ n. rw n))
          (λ t h. rw (settles_out t h))

    pub settled_blocks : block_of (settled s u p x) ≡ (λ t. pick (settles s u p x t) (p.mined + 1) (block_of p t))
    unfolding block_of in_block confirm_entry with_block with_confirmed with_shared
    settled_blocks = fun_ext (field_is (λ (y : Slot). y.height) (λ t. p.mined + 1) (λ t i. rw i))

    pub settled_to : confirmed_to (settled s u p x) ≡ (λ t. pick (settles s u p x t) (block_to p t) (confirmed_to p t))
    unfolding confirmed_to block_to in_block confirm_entry with_block with_confirmed with_shared
    settled_to = fun_ext (field_is (λ (y : Slot). entry_to y.confirmed) (block_to p) (λ t i. rw i))

    pub settled_block : in_block (settled s u p x) ≡ (λ t. in_block p t && not (settles s u p x t))
    unfolding in_block confirm_entry with_block with_confirmed with_shared
    settled_block =
        fun_ext (λ t.
        rw (field_is (λ (y : Slot). standing y.block) (λ t. false) (λ t i. rw i none_stands) t)
        (split (settles s u p x t)
        (λ y. rw y (split (standing (slot p t).block) (λ z. rw z) (λ z. rw z)))
        (λ y. rw y (split (standing (slot p t).block) (λ z. rw z) (λ z. rw z)))))

    pub settled_block_to : (t : ℕ) → settles s u p x t ≡ false → block_to (settled s u p x) t ≡ block_to p t
    unfolding block_to in_block confirm_entry with_block with_confirmed with_shared
    settled_block_to t n = field_is (λ (y : Slot). entry_to y.block) (λ t. entry_to 0) (λ t i. rw i) t ∙ rw n

    -- block and destination of one that settles, and of another
    module _ (t : ℕ) where
      pub new_block : settles s u p x t ≡ true → block_of (settled s u p x) t ≡ p.mined + 1
      new_block y = rw (settled_blocks, y)

      pub new_to : settles s u p x t ≡ true → confirmed_to (settled s u p x) t ≡ block_to p t
      new_to y = rw (settled_to, y)

      pub old_block : settles s u p x t ≡ false → block_of (settled s u p x) t ≡ block_of p t
      old_block y = rw (settled_blocks, y)

      pub old_to : settles s u p x t ≡ false → confirmed_to (settled s u p x) t ≡ confirmed_to p t
      old_to y = rw (settled_to, y)

    -- confirmed then: confirmed before, or settled
    pub settled_confirmed : (t : ℕ) → is_confirmed (settled s u p x) t ≡ (settles s u p x t || is_confirmed p t)
    unfolding is_confirmed
    settled_confirmed t =
        split (settles s u p x t)
        (λ y. rw (settled_blocks, y) (lt-ltb 0 (p.mined + 1) (omega arith)))
        (λ y. rw (settled_blocks, y))

    -- what is shared then: what was, and what a settled entry shows
    shared_is_lem : (t d : ℕ) → shared (settled s u p x) t d
        ≡ pick (settles s u p x t) (shared_for (with_shared (block_to p t) (exposed_mask s t) (slot p t)) d) (shared p t d)
    unfolding shared block_to in_block confirm_entry
    shared_is_lem t d =
        field_is (λ (y : Slot). shared_for y d) (λ t. shared_for (with_shared (block_to p t) (exposed_mask s t) (slot p t)) d)
        (λ t i. rw (i, shared_block, shared_confirmed)) t

    pub settled_shared : (t d : ℕ) → settles s u p x t ≡ false → shared (settled s u p x) t d ≡ shared p t d
    settled_shared t d n = shared_is_lem t d ∙ rw n

    pub settled_kept : (t d i : ℕ) → d < destinations → bit (shared p t d) i ≡ true → bit (shared (settled s u p x) t d) i ≡ true
    unfolding shared
    settled_kept t d i l h =
        rw (shared_is_lem t d)
        (split (settles s u p x t)
        (λ y. rw y (shared_kept (block_to p t) (exposed_mask s t) (slot p t) d i l h))
        (λ y. rw y h))

    pub settled_shows : (t i : ℕ) → settles s u p x t ≡ true → block_to p t < destinations → bit (exposed_mask s t) i ≡ true
        → bit (shared (settled s u p x) t (block_to p t)) i ≡ true
    settled_shows t i y l h = rw (shared_is_lem t (block_to p t), y) (shared_has (block_to p t) (exposed_mask s t) (slot p t) i l h)

    pub settled_from : (t d i : ℕ) → d < destinations → bit (shared (settled s u p x) t d) i ≡ true
        → (bit (shared p t d) i ≡ true) ⊎ ((settles s u p x t ≡ true) × (block_to p t ≡ d) × (bit (exposed_mask s t) i ≡ true))
    unfolding shared
    settled_from t d i l h =
        split (settles s u p x t)
        (λ y.
        either (shared_from (block_to p t) (exposed_mask s t) (slot p t) d i l (rw (shared_is_lem t d, y) at h))
        inl
        (λ w. inr (y, sym w.0, w.1)))
        (λ y. inl (rw (shared_is_lem t d, y) at h))

    pub settled_length : length (settled s u p x).slots ≡ length p.slots
    unfolding settled settle
    settled_length = all_length s settle p

    pub settled_beyond : (t : ℕ) → count s ≤ t → slot (settled s u p x) t ≡ empty_slot
    unfolding settled settle
    settled_beyond t h = all_beyond s settle p t h ∙ beyond t h
