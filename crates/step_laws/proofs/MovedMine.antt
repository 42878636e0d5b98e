-- Where entries and shared signatures come from in a mined block.
-- Assumes nothing.
use Rattle.laws.proofs.Prelude.{ℕ, ◌+◌, ◌<◌, ◌≡◌, refl, sym, ◌∙◌, Bool, true, false, false≢true, List, ◌⊎◌, inl, inr, arith, pick, either, bit}
use Rattle.position.proofs.Rules.{Slot, destinations, standing, entry_to, with_pool, with_block, with_confirmed, shared_for, with_shared, exposed_mask, slot, in_block}
use Rattle.position.specs.declared.Position.{Position}
use Rattle.position.proofs.Rules.{block_to, block_of, shared, confirm_entry, with_slots, change_slots, leaves_pool, mine_slot, with_mined, after_mine}
use Rattle.slots.proofs.Entered.{Entered, filled, after_pool, after_confirmed, after_shared}
use Rattle.slots.proofs.SharedBits.{shared_from, shared_kept, shared_pool, shared_block, shared_confirmed}
use Rattle.step_laws.proofs.Provenance.{by_block, SlotMoved, Moved, entered_same, keys_same, each_changed}
use Rattle.step_laws.proofs.MovedEntry.{nothing_stands, removed}

height_same : {x y : Slot} → x ≡ y → x.height ≡ y.height
height_same q = rw q

-- a slot that leaves the pool, or stays
module _ (y : Slot) where
  abbrev left : Bool → Slot
  left leaves = pick leaves (with_pool 0 y) y

  left_entered : (leaves : Bool) (e : ℕ) → Entered (left leaves) e → Entered y e
  left_entered true e h = either (after_pool 0 y e h) (λ z. z) (λ z. nothing_stands z.0)
  left_entered false e h = h

  left_shared : (leaves : Bool) (e : ℕ) → shared_for (left leaves) e ≡ shared_for y e
  left_shared true e = shared_pool 0 y e
  left_shared false e = refl

  left_height : (leaves : Bool) → (left leaves).height ≡ y.height
  unfolding with_pool
  left_height true = refl
  left_height false = refl

-- a slot that is confirmed in block b, its mask m shared, or stays
module _ (m b : ℕ) (x : Slot) where
  abbrev confirmed : Bool → Slot
  confirmed on = pick on (with_block 0 (with_confirmed x.block b (with_shared (entry_to x.block) m x))) x

  confirmed_entered : (on : Bool) → standing x.block ≡ on → (e : ℕ) → Entered (confirmed on) e → Entered x e
  confirmed_entered true q e h =
      let y = with_shared (entry_to x.block) m x in
      either (after_confirmed x.block b y e (removed (with_confirmed x.block b y) e h))
      (after_shared (entry_to x.block) m x e)
      (filled q)
  confirmed_entered false q e h = h

  confirmed_shared : (on : Bool) (e i : ℕ) → e < destinations → bit (shared_for (confirmed on) e) i ≡ true
      → (bit (shared_for x e) i ≡ true) ⊎ ((on ≡ true) × (entry_to x.block ≡ e) × (bit m i ≡ true))
  confirmed_shared true e i l h =
      either (shared_from (entry_to x.block) m x e i l (rw (shared_block, shared_confirmed) at h))
      inl
      (λ y. inr (refl, sym y.0, y.1))
  confirmed_shared false e i l h = inl h

  confirmed_kept : (on : Bool) (e i : ℕ) → e < destinations → bit (shared_for x e) i ≡ true → bit (shared_for (confirmed on) e) i ≡ true
  confirmed_kept true e i l h = rw (shared_block, shared_confirmed) (shared_kept (entry_to x.block) m x e i l h)
  confirmed_kept false e i l h = h

  confirmed_height : (on : Bool) → on ≡ true → (confirmed on).height ≡ b
  unfolding with_block with_confirmed
  confirmed_height true q = refl
  confirmed_height false q = absurd (false≢true q)

module _ (s u : List ℕ) (p q : Position) (t : ℕ) (x : slot q t ≡ mine_slot s p t (slot p t)) where
  now : Slot
  now = confirmed (exposed_mask s t) (p.mined + 1) (slot p t) (standing (slot p t).block)

  is : slot q t ≡ left now (leaves_pool s (in_block p) t)
  unfolding mine_slot confirm_entry now
  is = x

  height_now : standing (slot p t).block ≡ true → 0 < (slot q t).height
  unfolding now
  height_now on =
      let m = exposed_mask s t in
      let b = p.mined + 1 in
      let h = confirmed_height m b (slot p t) (standing (slot p t).block) on in
      let e : (slot q t).height ≡ b = height_same is ∙ left_height now (leaves_pool s (in_block p) t) ∙ h in
      rw e (omega arith)

  mined_slot_lem : SlotMoved s u p q t
  unfolding shared in_block block_to block_of now
  mined_slot_lem =
      let m = exposed_mask s t in
      let b = p.mined + 1 in
      let on = standing (slot p t).block in
      let leaves = leaves_pool s (in_block p) t in
      record {
        entries = λ e h. inl (confirmed_entered m b (slot p t) on refl e (left_entered now leaves e (entered_same is h)));
        shares = λ e i l h.
            either (confirmed_shared m b (slot p t) on e i l (rw (is, left_shared now leaves e) at h))
            inl
            (λ y. inr (by_block y.0 y.1 (height_now y.0) y.2));
        kept = λ e i l h. rw (is, left_shared now leaves e) (confirmed_kept m b (slot p t) on e i l h);
      }

pub moved_mine : (s u : List ℕ) (p : Position) → Moved s u p (after_mine s p)
unfolding after_mine with_mined change_slots with_slots
moved_mine s u p =
    let q = after_mine s p in
    keys_same s u p q (each_changed s u p q (mine_slot s p) refl (λ t l x. mined_slot_lem s u p q t x)) refl
