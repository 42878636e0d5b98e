-- Where the entries, shared signatures and keys of a position come from: each was there before a step, or came with its passed tests.
-- Assumes nothing.
use Rattle.laws.proofs.Prelude.{ℕ, ◌^◌, ◌<◌, ◌≡◌, sym, Bool, true, false, ◌||◌, List, ◌⊎◌, inl, eqb, either, rewrite_first, every, bit}
use Rattle.position.proofs.Rules.{count, Slot, contract, destinations, empty_slot, shared_for, share_mask, exposed_mask, slot, in_pool, in_block, block_to, block_of}
use Rattle.position.specs.declared.Position.{Position}
use Rattle.position.proofs.Rules.{shared, keys, holds, deadline_in, no_transaction, shares_to, is_other, first_shares, is_open, may_share, may_give, with_slots, change_slot}
use Rattle.laws.specs.Cases.{stored, rewrote}
use Rattle.slots.proofs.Entered.{Entered}
use Rattle.step_laws.proofs.Sending.{Sent}

-- an entry of t for this destination stands in pool or block, or is confirmed
abbrev pub Stands : Position → ℕ → ℕ → Type 0
Stands p t e = Entered (slot p t) e

-- how signature i of t came to be shared for this destination, from position p to q
pub data Shown (s u : List ℕ) (p q : Position) (t e i : ℕ) : Type 0 where
  -- by a party's first shares: t passes every test that all of them pass
  by_first_shares : (party : ℕ)
      → ((test : ℕ → Bool) → every test (first_shares party) ≡ true → test t ≡ true)
      → e ≡ contract
      → bit (share_mask s (keys p party) t) i ≡ true
      → Shown s u p q t e i
  by_share : (party : ℕ)
      → eqb t no_transaction ≡ false
      → shares_to s t e ≡ true
      → (is_open u || may_share s u p party t) ≡ true
      → bit (share_mask s (keys p party) t) i ≡ true
      → Shown s u p q t e i
  by_send : (party : ℕ)
      → Sent s u p party t e
      → p.mined < deadline_in s u p t
      → in_pool q t ≡ true
      → q.mined ≡ p.mined
      → bit (exposed_mask s t) i ≡ true
      → Shown s u p q t e i
  by_block : in_block p t ≡ true → block_to p t ≡ e → 0 < block_of q t → bit (exposed_mask s t) i ≡ true → Shown s u p q t e i

-- how signature i came to be held by the receiver: given by a party, as signature j
pub data Given (s u : List ℕ) (p : Position) (receiver i : ℕ) : Type 0 where
  given : (party j : ℕ) → is_other s party receiver ≡ true → (is_open u || may_give s u p party j) ≡ true → bit (2 ^ j) i ≡ true
      → Given s u p receiver i

-- what became of one transaction's slot, from position p to q
pub record SlotMoved (s u : List ℕ) (p q : Position) (t : ℕ) : Type 0 where
  pub entries : (e : ℕ) → Stands q t e → Stands p t e ⊎ ((party : ℕ) × Sent s u p party t e)
  pub shares : (e i : ℕ) → e < destinations → bit (shared q t e) i ≡ true → (bit (shared p t e) i ≡ true) ⊎ Shown s u p q t e i
  pub kept : (e i : ℕ) → e < destinations → bit (shared p t e) i ≡ true → bit (shared q t e) i ≡ true

pub record Moved (s u : List ℕ) (p q : Position) : Type 0 where
  pub slots : (t : ℕ) → SlotMoved s u p q t
  pub gifts : (party i : ℕ) → holds q party i ≡ true → (holds p party i ≡ true) ⊎ Given s u p party i
  pub keys_kept : (party i : ℕ) → holds p party i ≡ true → holds q party i ≡ true

-- what is known of a slot is known of one equal to it
pub entered_same : {x y : Slot} {e : ℕ} → x ≡ y → Entered x e → Entered y e
entered_same q h = rw q at h

pub bit_same : {x y : Slot} (e i : ℕ) → x ≡ y → bit (shared_for x e) i ≡ true → bit (shared_for y e) i ≡ true
bit_same e i q h = rw q at h

module _ (s u : List ℕ) (p q : Position) where
  pub slot_same : (t : ℕ) → slot q t ≡ slot p t → SlotMoved s u p q t
  unfolding shared
  slot_same t x =
      record {
        entries = λ e h. inl (entered_same x h);
        shares = λ e i l h. inl (bit_same e i x h);
        kept = λ e i l h. bit_same e i (sym x) h;
      }

  -- no key moved
  pub keys_same : ((t : ℕ) → SlotMoved s u p q t) → q.keys ≡ p.keys → Moved s u p q
  unfolding holds keys
  keys_same m e = record { slots = m; gifts = λ party i h. inl (rw e at h); keys_kept = λ party i h. rw e h }

-- the slots after one is changed, and after each is
pub one_changed : (s u : List ℕ) (p : Position) (t : ℕ) (f : Slot → Slot)
    → (slot (change_slot t f p) t ≡ f (slot p t) → SlotMoved s u p (change_slot t f p) t)
    → (k : ℕ) → SlotMoved s u p (change_slot t f p) k
unfolding change_slot with_slots slot
one_changed s u p t f m k =
    either (stored p.slots t k (f (slot p t)) empty_slot)
    (slot_same s u p (change_slot t f p) k)
    (λ y. rw y.0 (m (rw y.0 at y.1)))

pub each_changed : (s u : List ℕ) (p q : Position) (f : ℕ → Slot → Slot)
    → q.slots ≡ rewrite_first (count s) f p.slots
    → ((t : ℕ) → t < count s → slot q t ≡ f t (slot p t) → SlotMoved s u p q t)
    → (t : ℕ) → SlotMoved s u p q t
unfolding slot
each_changed s u p q f x m t =
    either (rewrote (count s) f p.slots t empty_slot)
    (λ y. slot_same s u p q t (rw x y))
    (λ y. m t y.0 (rw x y.1))
