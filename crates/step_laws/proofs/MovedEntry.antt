-- Where entries and shared signatures come from in a send, a hand-in, an inclusion and a bump.
-- Assumes nothing.
use Rattle.laws.proofs.Prelude.{ℕ, ◌<◌, ◌≡◌, refl, sym, ◌∙◌, true, List, ◌⊎◌, inl, inr, either, clash}
use Rattle.position.proofs.Rules.{Slot, Destination, SendToPool, HandToMiner, destination_number, standing, entry_for, with_pool, with_block, with_shared, exposed_mask}
use Rattle.position.proofs.Rules.{slot, in_pool, shared, deadline_in, fields_right, enters, step_refusal, with_slots, change_slot, change_slots, after_send}
use Rattle.position.specs.declared.Position.{Position}
use Rattle.position.proofs.Rules.{after_hand_in, after_include, leaves_block, bump_slot, after_bump}
use Rattle.laws.specs.Cases.{picked}
use Rattle.slots.proofs.Entered.{Entered, pooled, after_pool, after_block, after_shared}
use Rattle.slots.proofs.SharedBits.{shared_from, shared_kept, shared_pool, shared_block}
use Rattle.step_laws.proofs.AfterSends.{entry_stands, entry_names}
use Rattle.step_laws.proofs.AfterBlocks.{none_stands}
use Rattle.step_laws.proofs.Sending.{Sent, sent_to_pool, before_deadline, handed_in_lem}
use Rattle.step_laws.proofs.Provenance.{by_send, SlotMoved, Moved, entered_same, slot_same, keys_same, one_changed, each_changed}

pub nothing_stands : {X : Type 0} → standing 0 ≡ true → X
nothing_stands h = clash h none_stands

-- a block entry that is the pool's comes from there
included : (x : Slot) (e : ℕ) → Entered (with_block x.pool x) e → Entered x e
included x e h = either (after_block x.pool x e h) (λ y. y) (λ y. pooled y.0 y.1)

-- an entry that is left was there
pub removed : (x : Slot) (e : ℕ) → Entered (with_block 0 x) e → Entered x e
removed x e h = either (after_block 0 x e h) (λ y. y) (λ y. nothing_stands y.0)

-- a slot whose block entry alone changed, and that has no entry for another destination
block_moved : (s u : List ℕ) (p q : Position) (t entry : ℕ) → slot q t ≡ with_block entry (slot p t)
    → ((e : ℕ) → Entered (with_block entry (slot p t)) e → Entered (slot p t) e ⊎ ((party : ℕ) × Sent s u p party t e))
    → SlotMoved s u p q t
unfolding shared
block_moved s u p q t entry x m =
    record {
      entries = λ e h. m e (entered_same x h);
      shares = λ e i l h. inl (rw (x, shared_block) at h);
      kept = λ e i l h. rw (x, shared_block) h;
    }

stands_now : (e : ℕ) (x y : Slot) → x ≡ with_pool (entry_for e) y → standing x.pool ≡ true
unfolding with_pool
stands_now e x y q = rw q (entry_stands e)

sent_slot : (s u : List ℕ) (p q : Position) (party t to : ℕ)
    → Sent s u p party t to
    → p.mined < deadline_in s u p t
    → q.mined ≡ p.mined
    → slot q t ≡ with_pool (entry_for to) (with_shared to (exposed_mask s t) (slot p t))
    → SlotMoved s u p q t
unfolding shared in_pool
sent_slot s u p q party t to w early same x =
    record {
      entries = λ e h.
          either (after_pool (entry_for to) (with_shared to (exposed_mask s t) (slot p t)) e (entered_same x h))
          (λ y. inl (after_shared to (exposed_mask s t) (slot p t) e y))
          (λ y. inr (party, rw (sym y.1 ∙ entry_names to) w));
      shares = λ e i l h.
          either (shared_from to (exposed_mask s t) (slot p t) e i l (rw (x, shared_pool) at h))
          inl
          (λ y. inr (by_send party (rw y.0 w) early (stands_now to (slot q t) (with_shared to (exposed_mask s t) (slot p t)) x) same y.1));
      kept = λ e i l h. rw (x, shared_pool) (shared_kept to (exposed_mask s t) (slot p t) e i l h);
    }

module _ (s u : List ℕ) (p : Position) where
  pub moved_send : (party t : ℕ) (to : Destination) → fields_right s u (SendToPool party t to) ≡ true
      → step_refusal s u p (SendToPool party t to) ≡ 0 → Moved s u p (after_send s t (destination_number to) p)
  unfolding after_send change_slot with_slots
  moved_send party t to f h =
      let e = destination_number to in
      let q = after_send s t e p in
      let now = sent_slot s u p q party t e (sent_to_pool s u p party t to f h) (before_deadline s u p party t to h) refl in
      keys_same s u p q (one_changed s u p t (λ x. with_pool (entry_for e) (with_shared e (exposed_mask s t) x)) now) refl

  pub moved_hand_in : (party t : ℕ) (to : Destination) → fields_right s u (HandToMiner party t to) ≡ true
      → step_refusal s u p (HandToMiner party t to) ≡ 0 → Moved s u p (after_hand_in t (destination_number to) p)
  unfolding after_hand_in change_slot with_slots
  moved_hand_in party t to f h =
      let d = destination_number to in
      let q = after_hand_in t d p in
      let w = handed_in_lem s u p party t to f h in
      keys_same s u p q
      (one_changed s u p t (with_block (entry_for d))
      (λ x. block_moved s u p q t (entry_for d) x
      (λ e y. either (after_block (entry_for d) (slot p t) e y) inl (λ z. inr (party, rw (sym z.1 ∙ entry_names d) w)))))
      refl

  pub moved_include : (t : ℕ) → Moved s u p (after_include t p)
  unfolding after_include change_slot with_slots
  moved_include t =
      let q = after_include t p in
      keys_same s u p q
      (one_changed s u p t (λ x. with_block x.pool x)
      (λ x. block_moved s u p q t (slot p t).pool x (λ e y. inl (included (slot p t) e y))))
      refl

  bumped : (q : Position) (b k : ℕ) → slot q k ≡ bump_slot s p b k (slot p k) → SlotMoved s u p q k
  unfolding bump_slot
  bumped q b k x =
      either (picked (enters s p b k) x)
      (λ y. block_moved s u p q k (slot p k).pool y.1 (λ e h. inl (included (slot p k) e h)))
      (λ y.
      either (picked (leaves_block s (enters s p b) k) y.1)
      (λ z. block_moved s u p q k 0 z.1 (λ e h. inl (removed (slot p k) e h)))
      (λ z. slot_same s u p q k z.1))

  pub moved_bump : (t : ℕ) → Moved s u p (after_bump s t p)
  unfolding after_bump change_slots with_slots
  moved_bump t =
      let q = after_bump s t p in
      keys_same s u p q (each_changed s u p q (bump_slot s p t) refl (λ k l x. bumped q t k x)) refl
