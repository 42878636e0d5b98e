-- Share marks: which steps set them, and which leave them alone.
-- Assumes nothing.
use Rattle.laws.proofs.Prelude.{ℕ, ◌-◌, ◌<◌, ◌≡◌, refl, sym, ap, ◌∙◌, Bool, true, false, List, [], ◌∷◌, ◌⊎◌, inl, inr, eqb, length, eq-eqb, ne_eqb, arith, bit_and, split}
use Rattle.laws.proofs.Prelude.{either, clash, and_parts, or_right, bit_or_lem, bit_and_lem, zero_or_one, every, bit, without}
use Rattle.position.proofs.Rules.{required, secrets, Slot, Step, Share, Give, SendToPool, HandToMiner, Include, Mine, Bump, alice, contract, share_mask, empty_slot}
use Rattle.position.proofs.Rules.{standing, with_pool, with_block, with_confirmed, with_shared, marks_of, marked_for, with_mark, confirm_entry, slot, in_block, shared}
use Rattle.position.specs.declared.Position.{Position}
use Rattle.position.proofs.Rules.{keys, marked, with_slots, change_slot, with_key, share_one, share_each, after_give, after_send, after_hand_in, after_include, leaves_pool}
use Rattle.position.proofs.Rules.{mine_slot, with_mined, after_mine, leaves_block, bump_slot, after_bump, effect, enters}
use Rattle.laws.specs.Cases.{stored}
use Rattle.slots.proofs.SharedBits.{shared_from, shared_mark, kept}
use Rattle.position.proofs.Changed.{one_length, one_slot, one_kept, all_kept}

-- ---- a slot's marks
-- a party's own mark is set, another's stays, and none is lost
pub mark_set : (party : ℕ) → party < 2 → (x : Slot) → marked_for (with_mark party contract x) party contract ≡ true
unfolding marked_for marks_of with_mark bit
mark_set party l x =
    either (zero_or_one party l)
    (λ e. rw e (bit_or_lem x.alice_made 4 2 ∙ or_right (bit x.alice_made 2) true refl))
    (λ e. rw e (bit_or_lem x.bob_made 4 2 ∙ or_right (bit x.bob_made 2) true refl))

pub mark_kept : (party q : ℕ) → q < 2 → (x : Slot) → marked_for x q contract ≡ true → marked_for (with_mark party contract x) q contract ≡ true
unfolding marked_for marks_of with_mark
mark_kept party q l x h =
    either (zero_or_one q l)
    (λ e. rw e (kept (eqb party alice) x.alice_made 4 contract (rw e at h)))
    (λ e. rw e (kept (eqb party 1) x.bob_made 4 contract (rw e at h)))

pub mark_other : (party q : ℕ) → q < 2 → (q ≡ party → ⊥) → (x : Slot) → marked_for (with_mark party contract x) q contract ≡ marked_for x q contract
unfolding marked_for marks_of with_mark
mark_other party q l n x =
    either (zero_or_one q l)
    (λ e. rw (e, ne_eqb party 0 (λ z. n (e ∙ sym z))))
    (λ e. rw (e, ne_eqb party 1 (λ z. n (e ∙ sym z))))

pub shared_marks : (to m : ℕ) (x : Slot) (q e : ℕ) → marked_for (with_shared to m x) q e ≡ marked_for x q e
unfolding marked_for marks_of with_shared
shared_marks to m x q e = refl

-- ---- a row of shares for the contract, slot by slot
module _ (s : List ℕ) (party : ℕ) where
  -- what one share makes of a slot
  abbrev share_slot : ℕ → Slot → Slot
  share_slot m x = with_mark party contract (with_shared contract m x)

  same_keys : (t : ℕ) (p : Position) → keys (share_one s party t contract p) party ≡ keys p party
  unfolding share_one change_slot with_slots keys
  same_keys t p = refl

  same_length : (t : ℕ) (p : Position) → length (share_one s party t contract p).slots ≡ length p.slots
  unfolding share_one
  same_length t p = one_length t (share_slot (share_mask s (keys p party) t)) p

  -- a test that shares keep
  module _ (f : Slot → Bool) (grows : (m : ℕ) (x : Slot) → f x ≡ true → f (share_slot m x) ≡ true) where
    one_grows : (k : ℕ) (p : Position) (t : ℕ) → f (slot p t) ≡ true → f (slot (share_one s party k contract p) t) ≡ true
    unfolding share_one change_slot with_slots slot
    one_grows k p t h =
        either (stored p.slots k t (share_slot (share_mask s (keys p party) k) (slot p k)) empty_slot)
        (λ y. ap f y ∙ h)
        (λ y. ap f y.1 ∙ grows (share_mask s (keys p party) k) (slot p k) (rw y.0 at h))

    pub each_grows : (l : List ℕ) (p : Position) (t : ℕ) → f (slot p t) ≡ true → f (slot (share_each s party l p) t) ≡ true
    unfolding share_each
    each_grows [] p t h = h
    each_grows (k ∷ l) p t h = each_grows l (share_one s party k contract p) t (one_grows k p t h)

    -- and that a share makes hold
    module _ (held : ℕ) (sets : ℕ → Bool) (low : (t : ℕ) → sets t ≡ true → t < 32)
        (makes : (t : ℕ) (x : Slot) → sets t ≡ true → f (share_slot (share_mask s held t) x) ≡ true) where
      one_makes : (t : ℕ) (p : Position) → keys p party ≡ held → length p.slots ≡ 32 → sets t ≡ true → f (slot (share_one s party t contract p) t) ≡ true
      unfolding share_one
      one_makes t p e n h =
          let g : Slot → Slot = share_slot (share_mask s (keys p party) t) in
          let z : slot (change_slot t g p) t ≡ g (slot p t) = one_slot t g p (omega (arith, n, low t h)) t ∙ rw (eq-eqb t t refl) in
          ap f z ∙ rw e (makes t (slot p t) h)

      pub each_makes : (l : List ℕ) (p : Position) → keys p party ≡ held → length p.slots ≡ 32 → every sets l ≡ true
          → every (λ t. f (slot (share_each s party l p) t)) l ≡ true
      unfolding every share_each
      each_makes [] p e n h = refl
      each_makes (t ∷ l) p e n h =
          let o = share_one s party t contract p in
          let a = and_parts (sets t) (every sets l) h in
          let b = each_grows l o t (one_makes t p e n a.0) in
          rw (b, each_makes l o (same_keys t p ∙ e) (same_length t p ∙ n) a.1)

  -- what shares leave alone
  module _ {A : Type 0} (field : Slot → A) (same : (m : ℕ) (x : Slot) → field (share_slot m x) ≡ field x) where
    pub each_same : (l : List ℕ) (p : Position) (t : ℕ) → field (slot (share_each s party l p) t) ≡ field (slot p t)
    unfolding share_each share_one
    each_same [] p t = refl
    each_same (k ∷ l) p t = each_same l (share_one s party k contract p) t ∙ one_kept k (share_slot (share_mask s (keys p party) k)) p field (same (share_mask s (keys p party) k)) t

  -- a signature in a share is the party's
  in_share : (h t i : ℕ) → bit (share_mask s h t) i ≡ true → bit h i ≡ true
  unfolding share_mask without
  in_share h t i b =
      let a = (and_parts (bit (bit_and h (required s t)) i) (bit (255 - secrets s) i) (sym (bit_and_lem (bit_and h (required s t)) (255 - secrets s) i) ∙ b)).0 in
      (and_parts (bit h i) (bit (required s t) i) (sym (bit_and_lem h (required s t) i) ∙ a)).0

  one_from : (k : ℕ) (p : Position) (t i : ℕ) → bit (shared (share_one s party k contract p) t contract) i ≡ true
      → (bit (shared p t contract) i ≡ true) ⊎ (bit (keys p party) i ≡ true)
  unfolding share_one change_slot with_slots slot shared
  one_from k p t i h =
      let m = share_mask s (keys p party) k in
      either (stored p.slots k t (share_slot m (slot p k)) empty_slot)
      (λ y. inl (rw y at h))
      (λ y.
      either (shared_from contract m (slot p k) contract i (omega arith) (rw (y.1, shared_mark) at h))
      (λ z. inl (rw y.0 z))
      (λ z. inr (in_share (keys p party) k i z.1)))

  pub each_from : (l : List ℕ) (p : Position) (t i : ℕ) → bit (shared (share_each s party l p) t contract) i ≡ true
      → (bit (shared p t contract) i ≡ true) ⊎ (bit (keys p party) i ≡ true)
  unfolding share_each
  each_from [] p t i h = inl h
  each_from (k ∷ l) p t i h =
      either (each_from l (share_one s party k contract p) t i h)
      (one_from k p t i)
      (λ y. inr (rw (same_keys k p) at y))

-- ---- no step but a share sets a mark
unfoldable pub is_share : Step → Bool
is_share (Share party t to) = true
is_share (Give party i to) = false
is_share (SendToPool party t to) = false
is_share (HandToMiner party t to) = false
is_share (Include party t to) = false
is_share (Mine party t to) = false
is_share (Bump party t to) = false

module _ (s : List ℕ) (p : Position) (q e : ℕ) where
  mine_marks : (k : ℕ) (x : Slot) → marked_for (mine_slot s p k x) q e ≡ marked_for x q e
  unfolding mine_slot confirm_entry marked_for marks_of with_pool with_block with_confirmed with_shared
  mine_marks k x =
      split (leaves_pool s (in_block p) k)
      (λ y. split (standing x.block) (λ z. rw (y, z)) (λ z. rw (y, z)))
      (λ y. split (standing x.block) (λ z. rw (y, z)) (λ z. rw (y, z)))

  bump_marks : (b k : ℕ) (x : Slot) → marked_for (bump_slot s p b k x) q e ≡ marked_for x q e
  unfolding bump_slot marked_for marks_of with_block
  bump_marks b k x =
      split (enters s p b k)
      (λ y. rw y)
      (λ y. split (leaves_block s (enters s p b) k) (λ z. rw (y, z)) (λ z. rw (y, z)))

  pub other_marks : (x : Step) → is_share x ≡ false → (t : ℕ) → marked (effect s p x) q t e ≡ marked p q t e
  unfolding is_share effect marked after_give with_key after_send after_hand_in after_include after_mine with_mined after_bump slot with_pool with_block with_shared marked_for marks_of
  other_marks (Share party k to) n t = clash refl n
  other_marks (Give party i to) n t = refl
  other_marks (SendToPool party k to) n t = one_kept k _ p (λ x. marked_for x q e) (λ x. refl) t
  other_marks (HandToMiner party k to) n t = one_kept k _ p (λ x. marked_for x q e) (λ x. refl) t
  other_marks (Include party k to) n t = one_kept k _ p (λ x. marked_for x q e) (λ x. refl) t
  other_marks (Mine party k to) n t = all_kept s (mine_slot s p) p (λ x. marked_for x q e) mine_marks t
  other_marks (Bump party k to) n t = all_kept s (bump_slot s p k) p (λ x. marked_for x q e) (bump_marks k) t
