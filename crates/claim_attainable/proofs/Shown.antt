-- Shared signatures and keys after each kind of step: where each comes from.
-- Assumes nothing.
use Rattle.laws.proofs.Prelude.{ℕ, ◌+◌, ◌^◌, ◌<◌, ◌≡◌, refl, sym, ◌∙◌, true, List, [], ◌∷◌, ◌⊎◌, inl, inr, eqb, eqb-true, bit_or, split, either, or_bit, no_bit, bit_and_lem}
use Rattle.laws.proofs.Prelude.{joined, bit_joined, bit, union_below}
use Rattle.position.proofs.Rules.{count, secrets, Slot, contract, destinations, empty_slot, standing, entry_to, entry_for, shared_for, with_pool, with_block, with_shared}
use Rattle.position.proofs.Rules.{with_mark, shared_any, share_mask, exposed_mask, shared_secrets, slot, in_block, block_to, shared, keys, holds, no_transaction}
use Rattle.position.specs.declared.Position.{Position}
use Rattle.position.proofs.Rules.{confirm_entry, first_shares, enters, with_slots, change_slot, change_slots, with_key, share_one, share_each, after_share, after_give, after_send}
use Rattle.position.proofs.Rules.{after_hand_in, after_include, leaves_pool, mine_slot, with_mined, after_mine, leaves_block, bump_slot, after_bump}
use Rattle.laws.specs.Cases.{stored, rewrote}
use Rattle.slots.proofs.SharedBits.{shared_from, shared_pool, shared_block, shared_confirmed, shared_mark}
use Rattle.attainable.proofs.Masks.{or_last, union_has}

-- shared signatures where one slot, or each, is changed
pub one_shared : (t : ℕ) (f : Slot → Slot) (p : Position) (k e i : ℕ) → bit (shared (change_slot t f p) k e) i ≡ true
    → (bit (shared p k e) i ≡ true) ⊎ ((k ≡ t) × (bit (shared_for (f (slot p t)) e) i ≡ true))
unfolding change_slot with_slots slot shared
one_shared t f p k e i h =
    either (stored p.slots t k (f (slot p t)) empty_slot)
    (λ y. inl (rw y at h))
    (λ y. inr (y.0, rw y.1 at h))

pub each_shared : (s : List ℕ) (f : ℕ → Slot → Slot) (p : Position) (k e i : ℕ) → bit (shared (change_slots s f p) k e) i ≡ true
    → (bit (shared p k e) i ≡ true) ⊎ (bit (shared_for (f k (slot p k)) e) i ≡ true)
unfolding change_slots with_slots slot shared
each_shared s f p k e i h =
    either (rewrote (count s) f p.slots k empty_slot)
    (λ y. inl (rw y at h))
    (λ y. inr (rw y.1 at h))

-- kind 1: what is shared was shared before, or is the party's on that transaction
pub share_one_lem : (s : List ℕ) (party t d : ℕ) (p : Position) (k e i : ℕ) → e < destinations → bit (shared (share_one s party t d p) k e) i ≡ true
    → (bit (shared p k e) i ≡ true) ⊎ (bit (share_mask s (keys p party) k) i ≡ true)
unfolding share_one shared
share_one_lem s party t d p k e i l h =
    let mask = share_mask s (keys p party) t in
    either (one_shared t (λ y. with_mark party d (with_shared d mask y)) p k e i h)
    inl
    (λ y.
    either (shared_from d mask (slot p t) e i l (rw shared_mark at y.1))
    (λ z. inl (rw y.0 z))
    (λ z. inr (rw y.0 z.1)))

pub share_keys : (s : List ℕ) (party t d : ℕ) (p : Position) → keys (share_one s party t d p) ≡ keys p
unfolding share_one change_slot with_slots keys
share_keys s party t d p = refl

pub share_each_lem : (s : List ℕ) (party : ℕ) (l : List ℕ) (p : Position) (k e i : ℕ) → e < destinations → bit (shared (share_each s party l p) k e) i ≡ true
    → (bit (shared p k e) i ≡ true) ⊎ (bit (share_mask s (keys p party) k) i ≡ true)
unfolding share_each
share_each_lem s party [] p k e i m h = inl h
share_each_lem s party (t ∷ l) p k e i m h =
    let o = share_one s party t contract p in
    either (share_each_lem s party l o k e i m h)
    (share_one_lem s party t contract p k e i m)
    (λ y. inr (rw (share_keys s party t contract p) at y))

pub each_keys : (s : List ℕ) (party : ℕ) (l : List ℕ) (p : Position) → keys (share_each s party l p) ≡ keys p
unfolding share_each
each_keys s party [] p = refl
each_keys s party (t ∷ l) p = each_keys s party l (share_one s party t contract p) ∙ share_keys s party t contract p

pub share_shown : (s : List ℕ) (party t d : ℕ) (p : Position) (k e i : ℕ) → e < destinations → bit (shared (after_share s party t d p) k e) i ≡ true
    → (bit (shared p k e) i ≡ true) ⊎ (bit (share_mask s (keys p party) k) i ≡ true)
unfolding after_share
share_shown s party t d p k e i l h =
    split (eqb t no_transaction)
    (λ y. share_each_lem s party (first_shares party) p k e i l (rw y at h))
    (λ y. share_one_lem s party t d p k e i l (rw y at h))

pub shared_keys : (s : List ℕ) (party t d : ℕ) (p : Position) → keys (after_share s party t d p) ≡ keys p
unfolding after_share
shared_keys s party t d p =
    split (eqb t no_transaction) (λ y. rw y (each_keys s party (first_shares party) p)) (λ y. rw y (share_keys s party t d p))

-- kind 6: the entries of the block are shown
pub confirmed_shown : (s : List ℕ) (b t : ℕ) (y : Slot) (e i : ℕ) → e < destinations → bit (shared_for (confirm_entry s b t y) e) i ≡ true
    → (bit (shared_for y e) i ≡ true) ⊎ ((standing y.block ≡ true) × (entry_to y.block ≡ e) × (bit (exposed_mask s t) i ≡ true))
unfolding confirm_entry
confirmed_shown s b t y e i l h =
    split (standing y.block)
    (λ on.
    either (shared_from (entry_to y.block) (exposed_mask s t) y e i l (rw (on, shared_block, shared_confirmed) at h))
    inl
    (λ z. inr (on, sym z.0, z.1)))
    (λ off. inl (rw off at h))

pub mine_shown : (s : List ℕ) (p : Position) (t : ℕ) (y : Slot) (e i : ℕ) → e < destinations → bit (shared_for (mine_slot s p t y) e) i ≡ true
    → (bit (shared_for y e) i ≡ true) ⊎ ((standing y.block ≡ true) × (entry_to y.block ≡ e) × (bit (exposed_mask s t) i ≡ true))
unfolding mine_slot
mine_shown s p t y e i l h =
    split (leaves_pool s (in_block p) t)
    (λ z. confirmed_shown s (p.mined + 1) t y e i l (rw (z, shared_pool) at h))
    (λ z. confirmed_shown s (p.mined + 1) t y e i l (rw z at h))

-- kind 7: nothing is shown
pub bump_shown : (s : List ℕ) (p : Position) (b k : ℕ) (y : Slot) (e : ℕ) → shared_for (bump_slot s p b k y) e ≡ shared_for y e
unfolding bump_slot
bump_shown s p b k y e =
    split (enters s p b k)
    (λ z. rw z (shared_block y.pool y e))
    (λ z. split (leaves_block s (enters s p b) k) (λ w. rw (z, w) (shared_block 0 y e)) (λ w. rw (z, w)))

-- kind 2: a key was held before, or is the one given
pub give_shared : (j receiver : ℕ) (p : Position) (t e : ℕ) → shared (after_give j receiver p) t e ≡ shared p t e
unfolding after_give with_key slot shared
give_shared j receiver p t e = refl

pub power_bit : (j i : ℕ) → j < 32 → i < 32 → bit (2 ^ j) i ≡ true → i ≡ j
unfolding joined
power_bit j i l m h =
    eqb-true i j (rw (no_bit i) at (sym (bit_joined 0 true j i l m) ∙ or_last 0 (2 ^ j) i h))

pub key_from : (p : Position) (receiver j holder i : ℕ) → j < 32 → i < 32 → holds (after_give j receiver p) holder i ≡ true → (holds p holder i ≡ true) ⊎ (i ≡ j)
unfolding after_give with_key holds keys
key_from p receiver j holder i l m h =
    either (stored p.keys receiver holder (bit_or (keys p receiver) (2 ^ j)) 0)
    (λ y. inl (rw y at h))
    (λ y.
    either (or_bit (keys p receiver) (2 ^ j) i (rw y.1 at h))
    (λ z. inl (rw y.0 z))
    (λ z. inr (power_bit j i l m z)))

-- kind 3: what is shown is the sent one's
pub send_shown : (s : List ℕ) (t d : ℕ) (p : Position) (k e i : ℕ) → e < destinations → bit (shared (after_send s t d p) k e) i ≡ true
    → (bit (shared p k e) i ≡ true) ⊎ ((k ≡ t) × (e ≡ d) × (bit (exposed_mask s t) i ≡ true))
unfolding after_send shared
send_shown s t d p k e i l h =
    either (one_shared t (λ y. with_pool (entry_for d) (with_shared d (exposed_mask s t) y)) p k e i h)
    inl
    (λ y.
    either (shared_from d (exposed_mask s t) (slot p t) e i l (rw shared_pool at y.1))
    (λ z. inl (rw y.0 z))
    (λ z. inr (y.0, z.0, z.1)))

pub send_keys : (s : List ℕ) (t d : ℕ) (p : Position) → keys (after_send s t d p) ≡ keys p
unfolding after_send change_slot with_slots keys
send_keys s t d p = refl

-- kinds 4, 5 and 7 show nothing
pub block_shown : (t : ℕ) (f : Slot → ℕ) (p : Position) (k e i : ℕ) → bit (shared (change_slot t (λ y. with_block (f y) y) p) k e) i ≡ true → bit (shared p k e) i ≡ true
unfolding shared
block_shown t f p k e i h =
    either (one_shared t (λ y. with_block (f y) y) p k e i h)
    (λ y. y)
    (λ y. rw y.0 (rw shared_block at y.1))

pub hand_keys : (t d : ℕ) (p : Position) → keys (after_hand_in t d p) ≡ keys p
unfolding after_hand_in change_slot with_slots keys
hand_keys t d p = refl

pub include_keys : (t : ℕ) (p : Position) → keys (after_include t p) ≡ keys p
unfolding after_include change_slot with_slots keys
include_keys t p = refl

pub mine_keys : (s : List ℕ) (p : Position) → keys (after_mine s p) ≡ keys p
unfolding after_mine with_mined change_slots with_slots keys
mine_keys s p = refl

pub bump_keys : (s : List ℕ) (t : ℕ) (p : Position) → keys (after_bump s t p) ≡ keys p
unfolding after_bump change_slots with_slots keys
bump_keys s t p = refl

pub bumped_shown : (s : List ℕ) (t : ℕ) (p : Position) (k e i : ℕ) → bit (shared (after_bump s t p) k e) i ≡ true → bit (shared p k e) i ≡ true
unfolding after_bump shared
bumped_shown s t p k e i h =
    either (each_shared s (bump_slot s p t) p k e i h)
    (λ y. y)
    (λ y. rw (bump_shown s p t k (slot p k) e) at y)

pub mined_shown : (s : List ℕ) (p : Position) (k e i : ℕ) → e < destinations → bit (shared (after_mine s p) k e) i ≡ true
    → (bit (shared p k e) i ≡ true) ⊎ ((in_block p k ≡ true) × (block_to p k ≡ e) × (bit (exposed_mask s k) i ≡ true))
unfolding after_mine with_mined shared in_block block_to slot
mined_shown s p k e i l h =
    either (each_shared s (mine_slot s p) p k e i h)
    inl
    (mine_shown s p k (slot p k) e i l)

-- a secret that is shared somewhere is in shared knowledge
pub secret_shown : (s : List ℕ) (q : Position) (k e i : ℕ) → k < count s → e < destinations → bit (secrets s) i ≡ true → bit (shared q k e) i ≡ true
    → bit (shared_secrets s (λ j. shared_any (slot q j))) i ≡ true
unfolding shared_secrets shared shared_any
secret_shown s q k e i l m a h =
    let all = union_below (count s) (λ j. shared_any (slot q j)) in
    let any : bit (shared_any (slot q k)) i ≡ true = union_has destinations (shared_for (slot q k)) i e m h in
    let one : bit all i ≡ true = union_has (count s) (λ j. shared_any (slot q j)) i k l any in
    bit_and_lem (secrets s) all i ∙ rw (a, one)
