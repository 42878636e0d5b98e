-- Every accepted step in which X is idle: where the entries, shared signatures and keys after it come from.
-- Assumes nothing.
use Rattle.laws.proofs.Prelude.{ℕ, ◌+◌, ◌≤◌, ◌<◌, ◌≡◌, refl, Bool, true, false, not, ◌&&◌, ◌||◌, false≢true, List, ◌⊎◌, inl, inr, eqb, ltb, length, eqb-true, ltb-true}
use Rattle.laws.proofs.Prelude.{not-true, arith, pick, split, either, and_parts, or_parts, passed}
use Rattle.position.proofs.Rules.{count, parent, opening, signatures, stealth, Destination, Step, Share, Give, SendToPool, HandToMiner, Include, Mine, Bump, miner}
use Rattle.position.proofs.Rules.{contract, destination_number, is_party, has_parent, meets_conflict, empty_slot, entry_for, slot, in_pool, pool_to, in_block, block_to}
use Rattle.position.specs.declared.Position.{Position}
use Rattle.position.proofs.Rules.{block_of, is_confirmed, confirmed_to, sent, placed, keys, holds, is_other, shares_to, first_share_fields, fields_right, enters, give_met}
use Rattle.position.proofs.Rules.{give_tests, send_tests, pool_tests, miner_tests, include_tests, conduct_allows, step_refusal, after_share, after_give, after_send, after_hand_in}
use Rattle.position.proofs.Rules.{after_include, leaves_pool, after_mine, after_bump, effect}
use Rattle.position.specs.StepRefusal.{tests}
use Rattle.step_laws.proofs.Untouched.{SamePool, SameBlock, SameConfirmed}
use Rattle.step_laws.proofs.AfterShares.{share_pool, share_block, share_confirmed, give_pool, give_block, give_confirmed}
use Rattle.step_laws.proofs.AfterSends.{send_pool, send_to, send_block, send_confirmed, hand_block, hand_to, hand_pool, hand_confirmed, include_block, include_to, include_pool, include_confirmed}
use Rattle.step_laws.proofs.AfterBlocks.{mine_blocks, mine_to, mine_block, mine_pool, mine_pool_to, bump_block, bump_to_entered, bump_to_kept, bump_pool, bump_confirmed, enters_in_lem}
use Rattle.step_laws.proofs.Sending.{sent_to_pool, before_deadline, handed_in_lem}
use Rattle.claim_attainable.proofs.Actors.{Apart, Idle, Place, in_pool_lem, in_block_lem, in_chain, There, pool, block, chain, SentBy, by_share_lem, by_send_lem, by_block_lem, MovedBy}
use Rattle.claim_attainable.proofs.Shown.{share_shown, shared_keys, give_shared, key_from, send_shown, send_keys, block_shown, hand_keys, include_keys, mine_keys, bump_keys, bumped_shown, mined_shown}

-- entries that are the same in each place
module _ (p q : Position) where
  pool_same : SamePool p q → (t e : ℕ) → in_pool q t ≡ true → pool_to q t ≡ e → Place p t e
  pool_same a t e i h = in_pool_lem (rw a.there at i) (rw a.to at h)

  block_same : SameBlock p q → (t e : ℕ) → in_block q t ≡ true → block_to q t ≡ e → Place p t e
  block_same a t e i h = in_block_lem (rw a.there at i) (rw a.to at h)

  chain_same : SameConfirmed p q → (t e : ℕ) → 0 < block_of q t → confirmed_to q t ≡ e → Place p t e
  chain_same a t e i h = in_chain (rw a.blocks at i) (rw a.to at h)

  all_same : SamePool p q → SameBlock p q → SameConfirmed p q → (t e : ℕ) → Place q t e → Place p t e
  all_same a b c t e (in_pool_lem i h) = pool_same a t e i h
  all_same a b c t e (in_block_lem i h) = block_same b t e i h
  all_same a b c t e (in_chain i h) = chain_same c t e i h

-- an entry put at one place, or what was there
put : (b on : Bool) (d x e : ℕ) → (b || on) ≡ true → pick b d x ≡ e → ((b ≡ true) × (d ≡ e)) ⊎ ((on ≡ true) × (x ≡ e))
put true on d x e i h = inl (refl, h)
put false on d x e i h = inr (i, h)

-- what a test of the parent tells
sent_there : (s : List ℕ) (p : Position) (t : ℕ) → has_parent s (sent p) t ≡ true → (opening s t ≡ true) ⊎ There p (parent s t)
unfolding has_parent sent
sent_there s p t h =
    either (or_parts (opening s t) (in_pool p (parent s t) || is_confirmed p (parent s t)) h)
    inl
    (λ y. inr (either (or_parts (in_pool p (parent s t)) (is_confirmed p (parent s t)) y) pool chain))

placed_there : (s : List ℕ) (p : Position) (t : ℕ) → has_parent s (placed p) t ≡ true → (opening s t ≡ true) ⊎ There p (parent s t)
unfolding has_parent placed
placed_there s p t h =
    either (or_parts (opening s t) (in_block p (parent s t) || is_confirmed p (parent s t)) h)
    inl
    (λ y. inr (either (or_parts (in_block p (parent s t)) (is_confirmed p (parent s t)) y) block chain))

-- no key moved
held_same : (s : List ℕ) (p q : Position) (x : ℕ) → keys q ≡ keys p → (holder i : ℕ) → i < 32 → holds q holder i ≡ true
    → (holds p holder i ≡ true) ⊎ ((party : ℕ) × (is_party s party ≡ true) × (eqb party x ≡ false) × (holds p party i ≡ true))
unfolding holds
held_same s p q x e holder i l h = inl (rw e at h)

-- an entry's three places
by_place : {X : ℕ → ℕ → Type 0} (p q : Position)
    → ((t e : ℕ) → in_pool q t ≡ true → pool_to q t ≡ e → Place p t e ⊎ X t e)
    → ((t e : ℕ) → in_block q t ≡ true → block_to q t ≡ e → Place p t e ⊎ X t e)
    → ((t e : ℕ) → 0 < block_of q t → confirmed_to q t ≡ e → Place p t e ⊎ X t e)
    → (t e : ℕ) → Place q t e → Place p t e ⊎ X t e
by_place p q a b c t e (in_pool_lem i h) = a t e i h
by_place p q a b c t e (in_block_lem i h) = b t e i h
by_place p q a b c t e (in_chain i h) = c t e i h

module _ (s u : List ℕ) (p : Position) (x : ℕ) (also : ℕ → Bool) where
  -- a send that passes, to the pool or to the miner
  pool_sent : (party t : ℕ) (to : Destination) → fields_right s u (SendToPool party t to) ≡ true → step_refusal s u p (SendToPool party t to) ≡ 0
      → Apart x also party t → SentBy s u p x also t (destination_number to)
  unfolding step_refusal tests pool_tests send_tests
  pool_sent party t to f h idle =
      record {
        party = party;
        apart = idle;
        sends = sent_to_pool s u p party t to f h;
        above = sent_there s p t (passed (tests s u p (SendToPool party t to)) refl h 15);
        early = λ e. before_deadline s u p party t to h;
      }

  miner_sent : (party t : ℕ) (to : Destination) → fields_right s u (HandToMiner party t to) ≡ true → step_refusal s u p (HandToMiner party t to) ≡ 0
      → Apart x also party t → SentBy s u p x also t (destination_number to)
  unfolding step_refusal tests miner_tests send_tests
  miner_sent party t to f h idle =
      record {
        party = party;
        apart = idle;
        sends = handed_in_lem s u p party t to f h;
        above = placed_there s p t (passed (tests s u p (HandToMiner party t to)) refl h 15);
        early = λ e.
            let a = eqb-true (stealth u) 0 e in
            let b = eqb-true (stealth u) 1 (passed (tests s u p (HandToMiner party t to)) refl h 12) in
            absurd (omega (arith, a, b));
      }

  moved_share : (party t : ℕ) (to : Destination) → fields_right s u (Share party t to) ≡ true → eqb party x ≡ false
      → MovedBy s u p x also (after_share s party t (destination_number to) p)
  unfolding fields_right
  moved_share party t to f idle =
      let d = destination_number to in
      let q = after_share s party t d p in
      let who = (and_parts (is_party s party) ((ltb t (count s) && shares_to s t d) || first_share_fields u t d) f).0 in
      record {
        entries = λ k e h. inl (all_same p q (share_pool s party t d p) (share_block s party t d p) (share_confirmed s party t d p) k e h);
        shares = λ k e i l h. either (share_shown s party t d p k e i l h) inl (λ y. inr (by_share_lem party who idle y));
        gifts = held_same s p q x (shared_keys s party t d p);
      }

  -- the giver holds what it gives
  gave : (party j : ℕ) (to : Destination) → step_refusal s u p (Give party j to) ≡ 0 → holds p party j ≡ true
  unfolding step_refusal tests give_tests give_met
  gave party j to h =
      let d = destination_number to in
      let w = passed (tests s u p (Give party j to)) refl h 13 in
      (and_parts (holds p party j) (not (holds p d j)) (and_parts (conduct_allows s u p (Give party j to)) (holds p party j && not (holds p d j)) w).1).0

  moved_give : (party j : ℕ) (to : Destination) → signatures s ≤ 8 → fields_right s u (Give party j to) ≡ true → step_refusal s u p (Give party j to) ≡ 0
      → eqb party x ≡ false → MovedBy s u p x also (after_give j (destination_number to) p)
  unfolding fields_right
  moved_give party j to most f h idle =
      let d = destination_number to in
      let q = after_give j d p in
      let w = and_parts (is_party s party) (ltb j (signatures s) && is_other s party d) f in
      let low = ltb-true j (signatures s) (and_parts (ltb j (signatures s)) (is_other s party d) w.1).0 in
      record {
        entries = λ k e y. inl (all_same p q (give_pool j d p) (give_block j d p) (give_confirmed j d p) k e y);
        shares = λ k e i l y. inl (rw (give_shared j d p k e) at y);
        gifts = λ holder i l y.
            either (key_from p d j holder i (omega arith) l y)
            inl
            (λ z. inr (party, w.0, idle, rw z (gave party j to h)));
      }

  -- kinds 3 and 4
  moved_send : (few : count s ≤ length p.slots) (party t : ℕ) (to : Destination) → fields_right s u (SendToPool party t to) ≡ true
      → step_refusal s u p (SendToPool party t to) ≡ 0 → Apart x also party t → MovedBy s u p x also (after_send s t (destination_number to) p)
  moved_send few party t to f h idle =
      let d = destination_number to in
      let q = after_send s t d p in
      let w = pool_sent party t to f h idle in
      let l : t < length p.slots = omega (arith, few, w.sends.low) in
      record {
        entries = by_place p q
            (λ k e i y.
            either (put (eqb k t) (in_pool p k) d (pool_to p k) e (rw (send_pool s t d p l) at i) (rw (send_to s t d p l) at y))
            (λ z. inr (rw (eqb-true k t z.0, ← z.1) w))
            (λ z. inl (in_pool_lem z.0 z.1)))
            (λ k e i y. inl (block_same p q (send_block s t d p) k e i y))
            (λ k e i y. inl (chain_same p q (send_confirmed s t d p) k e i y));
        shares = λ k e i n y.
            either (send_shown s t d p k e i n y)
            inl
            (λ z. inr (by_send_lem (rw (z.0, z.1) w) (rw z.0 z.2)));
        gifts = held_same s p q x (send_keys s t d p);
      }

  moved_hand_in : (few : count s ≤ length p.slots) (party t : ℕ) (to : Destination) → fields_right s u (HandToMiner party t to) ≡ true
      → step_refusal s u p (HandToMiner party t to) ≡ 0 → Apart x also party t → MovedBy s u p x also (after_hand_in t (destination_number to) p)
  unfolding after_hand_in
  moved_hand_in few party t to f h idle =
      let d = destination_number to in
      let q = after_hand_in t d p in
      let w = miner_sent party t to f h idle in
      let l : t < length p.slots = omega (arith, few, w.sends.low) in
      record {
        entries = by_place p q
            (λ k e i y. inl (pool_same p q (hand_pool t d p) k e i y))
            (λ k e i y.
            either (put (eqb k t) (in_block p k) d (block_to p k) e (rw (hand_block t d p l) at i) (rw (hand_to t d p l) at y))
            (λ z. inr (rw (eqb-true k t z.0, ← z.1) w))
            (λ z. inl (in_block_lem z.0 z.1)))
            (λ k e i y. inl (chain_same p q (hand_confirmed t d p) k e i y));
        shares = λ k e i n y. inl (block_shown t (λ z. entry_for d) p k e i y);
        gifts = held_same s p q x (hand_keys t d p);
      }

  -- kinds 5, 6 and 7, the miner's
  moved_include : (few : count s ≤ length p.slots) (t : ℕ) → t < count s → in_pool p t ≡ true → MovedBy s u p x also (after_include t p)
  unfolding after_include
  moved_include few t low there =
      let q = after_include t p in
      let l : t < length p.slots = omega (arith, few, low) in
      record {
        entries = by_place p q
            (λ k e i y. inl (pool_same p q (include_pool t p) k e i y))
            (λ k e i y.
            either (put (eqb k t) (in_block p k) (pool_to p k) (block_to p k) e (rw (include_block t p l there) at i) (rw (include_to t p l) at y))
            (λ z. inl (in_pool_lem (rw (eqb-true k t z.0) there) z.1))
            (λ z. inl (in_block_lem z.0 z.1)))
            (λ k e i y. inl (chain_same p q (include_confirmed t p) k e i y));
        shares = λ k e i n y. inl (block_shown t (λ z. z.pool) p k e i y);
        gifts = held_same s p q x (include_keys t p);
      }

  module _ (few : count s ≤ length p.slots) (beyond : (k : ℕ) → count s ≤ k → slot p k ≡ empty_slot) where
    -- an entry of the mined block is confirmed for its destination, and others stay as they are
    mined_chain : (on : Bool) (b m y c e : ℕ) → 0 < pick on m y → pick on b c ≡ e → ((on ≡ true) × (b ≡ e)) ⊎ ((0 < y) × (c ≡ e))
    mined_chain true b m y c e i h = inl (refl, h)
    mined_chain false b m y c e i h = inr (i, h)

    moved_mine : MovedBy s u p x also (after_mine s p)
    moved_mine =
        let q = after_mine s p in
        record {
          entries = by_place p q
              (λ k e i y.
              let w = and_parts (in_pool p k) (not (leaves_pool s (in_block p) k)) (rw (mine_pool s p few beyond) at i) in
              inl (in_pool_lem w.0 (rw (mine_pool_to s p few beyond k (not-true (leaves_pool s (in_block p) k) w.1)) at y)))
              (λ k e i y. absurd (false≢true (rw (mine_block s p few beyond) at i)))
              (λ k e i y.
              either (mined_chain (in_block p k) (block_to p k) (p.mined + 1) (block_of p k) (confirmed_to p k) e (rw (mine_blocks s p few beyond) at i) (rw (mine_to s p few beyond) at y))
              (λ z. inl (in_block_lem z.0 z.1))
              (λ z. inl (in_chain z.0 z.1)));
          shares = λ k e i n y. either (mined_shown s p k e i n y) inl (λ z. inr (by_block_lem z.0 z.1 z.2));
          gifts = held_same s p q x (mine_keys s p);
        }

    moved_bump : (t : ℕ) → MovedBy s u p x also (after_bump s t p)
    moved_bump t =
        let q = after_bump s t p in
        record {
          entries = by_place p q
              (λ k e i y. inl (pool_same p q (bump_pool s p few beyond t) k e i y))
              (λ k e i y.
              split (enters s p t k)
              (λ z. inl (in_pool_lem (enters_in_lem s p few beyond t k z) (rw (bump_to_entered s p few beyond t k z) at y)))
              (λ z.
              let w = and_parts (in_block p k) (not (meets_conflict s (enters s p t) k)) (rw (bump_block s p few beyond t, z) at i) in
              inl (in_block_lem w.0 (rw (bump_to_kept s p few beyond t k z (not-true (meets_conflict s (enters s p t) k) w.1)) at y))))
              (λ k e i y. inl (chain_same p q (bump_confirmed s p few beyond t) k e i y));
          shares = λ k e i n y. inl (bumped_shown s t p k e i y);
          gifts = held_same s p q x (bump_keys s t p);
        }

    include_fields : (party t : ℕ) (to : Destination) → fields_right s u (Include party t to) ≡ true → t < count s
    unfolding fields_right
    include_fields party t to f =
        let d = eqb (destination_number to) contract in
        ltb-true t (count s) (and_parts (ltb t (count s)) d (and_parts (eqb party miner) (ltb t (count s) && d) f).1).0

    include_waits : (party t : ℕ) (to : Destination) → step_refusal s u p (Include party t to) ≡ 0 → in_pool p t ≡ true
    unfolding step_refusal tests include_tests
    include_waits party t to h = passed (tests s u p (Include party t to)) refl h 19

    pub moved_by : (y : Step) → signatures s ≤ 8 → fields_right s u y ≡ true → step_refusal s u p y ≡ 0 → Idle x also y → MovedBy s u p x also (effect s p y)
    unfolding effect Idle
    moved_by (Share party t to) most f h idle = moved_share party t to f idle
    moved_by (Give party j to) most f h idle = moved_give party j to most f h idle
    moved_by (SendToPool party t to) most f h idle = moved_send few party t to f h idle
    moved_by (HandToMiner party t to) most f h idle = moved_hand_in few party t to f h idle
    moved_by (Include party t to) most f h idle = moved_include few t (include_fields party t to f) (include_waits party t to h)
    moved_by (Mine party t to) most f h idle = moved_mine
    moved_by (Bump party t to) most f h idle = moved_bump t
