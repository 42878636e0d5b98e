-- Each kind of step, taken, leads from a sound position to a sound one.
-- Assumes nothing.
use Rattle.laws.proofs.Prelude.{ℕ, ◌≤◌, ◌<◌, ◌≡◌, ◌∙◌, Bool, true, false, not, ◌&&◌, ◌||◌, false≢true, List, eqb, ltb, length, eqb-true, eqb-false, ltb-true, ne_eqb}
use Rattle.laws.proofs.Prelude.{not-true, arith, split, either, clash, and_parts, or_parts, every}
use Rattle.position.proofs.Rules.{count, saswap_at, saswap, per_day, conduct, lock_height, Checked, SetupChecked, alice, contract, is_party, is_payee, is_contract, no_conflict}
use Rattle.position.proofs.Rules.{empty_slot, with_pool, with_block, with_shared, entry_for, exposed_mask, has_parent, meets_conflict, slot_count, slot, in_pool, pool_to}
use Rattle.position.specs.declared.Position.{Position}
use Rattle.position.proofs.Rules.{in_block, block_to, block_of, is_confirmed, confirmed_to, sent, placed, no_transaction, sends_to, shares_to, first_share_fields, first_shares}
use Rattle.position.proofs.Rules.{waiting, enters, block_limit, after_share, after_give, after_send, after_hand_in, after_include, leaves_pool, after_mine, after_bump}
use Rattle.position.proofs.Changed.{one_length, one_other}
use Rattle.step_laws.proofs.Untouched.{SamePool, SameBlock, SameConfirmed}
use Rattle.step_laws.proofs.AfterShares.{share_length, share_beyond, share_pool, share_block, share_confirmed, give_slots, give_slot, give_pool, give_block, give_confirmed}
use Rattle.step_laws.proofs.AfterSends.{send_pool, send_to, send_block, send_confirmed, hand_block, hand_to, hand_pool, hand_confirmed, include_block, include_to, include_pool, include_confirmed}
use Rattle.step_laws.proofs.AfterBlocks.{mine_blocks, mine_to, mine_block, mine_pool, mine_pool_to, mine_mined, mine_length, mine_beyond}
use Rattle.step_laws.proofs.AfterBlocks.{bump_block, bump_to_entered, bump_to_kept, bump_pool, bump_confirmed, bump_length, bump_beyond, enters_in_lem}
use Rattle.claim_ledger.proofs.Sound.{Settled, Waits, Sound}
use Rattle.claim_ledger.proofs.Waiting.{waits_none, waits_more}
use Rattle.claim_ledger.proofs.MinedBlock.{settled_mined, waits_mined}
use Rattle.claim_ledger.proofs.BumpedBlock.{waits_bumped}

-- a destination that is right for a send is right for the transaction
pub right_to : (s : List ℕ) (party t d : ℕ) → is_party s party ≡ true → sends_to s party t d ≡ true → shares_to s t d ≡ true
unfolding sends_to shares_to
right_to s party t d a h =
    split (is_contract s t)
    (λ c. rw c (rw c at h))
    (λ c.
    let w = and_parts (eqb d party) (is_payee s t party) (rw c at h) in
    rw (c, eqb-true d party w.0, a) w.1)

-- the first shares are of the SASwap sheet's transactions
first_below : (d party : ℕ) → every (λ j. ltb j (count (saswap d))) (first_shares party) ≡ true
unfolding first_shares every count saswap saswap_at
first_below d party = split (eqb party alice) (λ y. rw y) (λ y. rw y)

module _ (s u : List ℕ) (ok : Checked s) (p : Position) (g : Sound s u p) where
  -- a position has room for the sheet's transactions
  pub wide : count s ≤ length p.slots
  wide = omega (arith, g.sized, ok.sized.few)

  -- the confirmations untouched, and the rest known
  module _ (q : Position) (sized : length q.slots ≡ slot_count) (beyond : (k : ℕ) → count s ≤ k → slot q k ≡ empty_slot) (c : SameConfirmed p q) where
    same_settled : Settled s (per_day u) (block_of q) q.mined
    same_settled = rw (c.blocks, c.mined) g.settled

    same_blocks : (members : ℕ → Bool) → Waits s (per_day u) members (block_of p) p.mined → Waits s (per_day u) members (block_of q) q.mined
    same_blocks members w = rw (c.blocks, c.mined) w

    same_pool : SamePool p q → Waits s (per_day u) (in_pool q) (block_of q) q.mined
    same_pool a = rw a.there (same_blocks (in_pool p) g.pool)

    same_block : SameBlock p q → Waits s (per_day u) (in_block q) (block_of q) q.mined
    same_block b = rw b.there (same_blocks (in_block p) g.block)

    same_to : (t : ℕ) → t < count s → is_confirmed q t ≡ true → shares_to s t (confirmed_to q t) ≡ true
    unfolding is_confirmed
    same_to t l h = rw c.to (g.confirmed_to_lem t l (rw c.blocks at h))

    same_pool_to : SamePool p q → (t : ℕ) → t < count s → in_pool q t ≡ true → shares_to s t (pool_to q t) ≡ true
    same_pool_to a t l h = rw a.to (g.pool_to_lem t l (rw a.there at h))

    same_block_to : SameBlock p q → (t : ℕ) → t < count s → in_block q t ≡ true → shares_to s t (block_to q t) ≡ true
    same_block_to b t l h = rw b.to (g.block_to_lem t l (rw b.there at h))

    sound_same : SamePool p q → SameBlock p q → Sound s u q
    sound_same a b =
        record {
          sized = sized;
          beyond = beyond;
          settled = same_settled;
          pool = same_pool a;
          block = same_block b;
          pool_to_lem = same_pool_to a;
          block_to_lem = same_block_to b;
          confirmed_to_lem = same_to;
        }

    sound_pool : Waits s (per_day u) (in_pool q) (block_of p) p.mined → ((t : ℕ) → t < count s → in_pool q t ≡ true → shares_to s t (pool_to q t) ≡ true) → SameBlock p q → Sound s u q
    sound_pool w to b =
        record {
          sized = sized;
          beyond = beyond;
          settled = same_settled;
          pool = same_blocks (in_pool q) w;
          block = same_block b;
          pool_to_lem = to;
          block_to_lem = same_block_to b;
          confirmed_to_lem = same_to;
        }

    sound_block : Waits s (per_day u) (in_block q) (block_of p) p.mined → ((t : ℕ) → t < count s → in_block q t ≡ true → shares_to s t (block_to q t) ≡ true) → SamePool p q → Sound s u q
    sound_block w to a =
        record {
          sized = sized;
          beyond = beyond;
          settled = same_settled;
          pool = same_pool a;
          block = same_blocks (in_block q) w;
          pool_to_lem = same_pool_to a;
          block_to_lem = to;
          confirmed_to_lem = same_to;
        }

  -- 1
  share_names : SetupChecked s u → (t d : ℕ) → ((ltb t (count s) && shares_to s t d) || first_share_fields u t d) ≡ true
      → (eqb t no_transaction ≡ true → s ≡ saswap (per_day u)) × (eqb t no_transaction ≡ false → t < count s)
  unfolding first_share_fields
  share_names su t d h =
      either (or_parts (ltb t (count s) && shares_to s t d) (eqb t no_transaction && (not (eqb (conduct u) 0) && eqb d contract)) h)
      (λ y.
      let l = ltb-true t (count s) (and_parts (ltb t (count s)) (shares_to s t d) y).0 in
      ((λ e. absurd (omega (arith, eqb-true t no_transaction e, ok.sized.few))), (λ e. l)))
      (λ y.
      let w = and_parts (eqb t no_transaction) (not (eqb (conduct u) 0) && eqb d contract) y in
      let v = and_parts (not (eqb (conduct u) 0)) (eqb d contract) w.1 in
      ((λ e. su.sheet_fits (some (not-true (eqb (conduct u) 0) v.0))), (λ e. clash w.0 e)))
    where
      some : eqb (conduct u) 0 ≡ false → 1 ≤ conduct u
      some e = omega (arith, eqb-false (conduct u) 0 e)

  pub sound_share : SetupChecked s u → (party t d : ℕ) → ((ltb t (count s) && shares_to s t d) || first_share_fields u t d) ≡ true → Sound s u (after_share s party t d p)
  sound_share su party t d h =
      let n = share_names su t d h in
      sound_same (after_share s party t d p) (share_length s party t d p ∙ g.sized)
      (λ k b. share_beyond s party t d p (λ e. rw (n.0 e) (first_below (per_day u) party)) n.1 k b ∙ g.beyond k b)
      (share_confirmed s party t d p) (share_pool s party t d p) (share_block s party t d p)

  -- 2
  pub sound_give : (i receiver : ℕ) → Sound s u (after_give i receiver p)
  sound_give i receiver =
      sound_same (after_give i receiver p) (rw (give_slots i receiver p) g.sized) (λ k b. rw (give_slot i receiver p) (g.beyond k b))
      (give_confirmed i receiver p) (give_pool i receiver p) (give_block i receiver p)

  module _ (t : ℕ) (l : t < count s) where
    room : t < length p.slots
    room = let w = wide in omega arith

    apart : (k : ℕ) → count s ≤ k → eqb k t ≡ false
    apart k b = ne_eqb k t (λ e. omega arith)

    -- 3
    send_length : (d : ℕ) → length (after_send s t d p).slots ≡ slot_count
    unfolding after_send
    send_length d = one_length t (λ x. with_pool (entry_for d) (with_shared d (exposed_mask s t) x)) p ∙ g.sized

    send_beyond : (d k : ℕ) → count s ≤ k → slot (after_send s t d p) k ≡ empty_slot
    unfolding after_send
    send_beyond d k b = one_other t (λ x. with_pool (entry_for d) (with_shared d (exposed_mask s t) x)) p k (apart k b) ∙ g.beyond k b

    send_right : (d : ℕ) → shares_to s t d ≡ true → (k : ℕ) → k < count s → in_pool (after_send s t d p) k ≡ true → shares_to s k (pool_to (after_send s t d p) k) ≡ true
    send_right d r k lk h =
        rw (send_to s t d p room)
        (split (eqb k t)
        (λ y. rw (y, eqb-true k t y) r)
        (λ y. rw y (g.pool_to_lem k lk (rw (send_pool s t d p room, y) at h))))

    pub sound_send : (d : ℕ) → shares_to s t d ≡ true → no_conflict s (sent p) t ≡ true → has_parent s (sent p) t ≡ true → lock_height s (per_day u) (block_of p) t ≤ p.mined → Sound s u (after_send s t d p)
    unfolding sent is_confirmed
    sound_send d r n h k =
        sound_pool (after_send s t d p) (send_length d) (send_beyond d) (send_confirmed s t d p)
        (rw (send_pool s t d p room) (waits_more s (per_day u) (in_pool p) (block_of p) p.mined g.pool t l n h k))
        (send_right d r) (send_block s t d p)

    -- 4
    hand_length : (d : ℕ) → length (after_hand_in t d p).slots ≡ slot_count
    unfolding after_hand_in
    hand_length d = one_length t (with_block (entry_for d)) p ∙ g.sized

    hand_beyond : (d k : ℕ) → count s ≤ k → slot (after_hand_in t d p) k ≡ empty_slot
    unfolding after_hand_in
    hand_beyond d k b = one_other t (with_block (entry_for d)) p k (apart k b) ∙ g.beyond k b

    hand_right : (d : ℕ) → shares_to s t d ≡ true → (k : ℕ) → k < count s → in_block (after_hand_in t d p) k ≡ true → shares_to s k (block_to (after_hand_in t d p) k) ≡ true
    hand_right d r k lk h =
        rw (hand_to t d p room)
        (split (eqb k t)
        (λ y. rw (y, eqb-true k t y) r)
        (λ y. rw y (g.block_to_lem k lk (rw (hand_block t d p room, y) at h))))

    pub sound_hand_in : (d : ℕ) → shares_to s t d ≡ true → no_conflict s (placed p) t ≡ true → has_parent s (placed p) t ≡ true → lock_height s (per_day u) (block_of p) t ≤ p.mined → Sound s u (after_hand_in t d p)
    unfolding placed is_confirmed
    sound_hand_in d r n h k =
        sound_block (after_hand_in t d p) (hand_length d) (hand_beyond d) (hand_confirmed t d p)
        (rw (hand_block t d p room) (waits_more s (per_day u) (in_block p) (block_of p) p.mined g.block t l n h k))
        (hand_right d r) (hand_pool t d p)

    -- 5
    include_length : length (after_include t p).slots ≡ slot_count
    unfolding after_include
    include_length = one_length t (λ x. with_block x.pool x) p ∙ g.sized

    include_beyond : (k : ℕ) → count s ≤ k → slot (after_include t p) k ≡ empty_slot
    unfolding after_include
    include_beyond k b = one_other t (λ x. with_block x.pool x) p k (apart k b) ∙ g.beyond k b

    include_right : in_pool p t ≡ true → (k : ℕ) → k < count s → in_block (after_include t p) k ≡ true → shares_to s k (block_to (after_include t p) k) ≡ true
    include_right i k lk h =
        rw (include_to t p room)
        (split (eqb k t)
        (λ y. rw (y, eqb-true k t y) (g.pool_to_lem t l i))
        (λ y. rw y (g.block_to_lem k lk (rw (include_block t p room i, y) at h))))

    pub sound_include : in_pool p t ≡ true → no_conflict s (placed p) t ≡ true → has_parent s (placed p) t ≡ true → Sound s u (after_include t p)
    unfolding placed is_confirmed
    sound_include i n h =
        sound_block (after_include t p) include_length include_beyond (include_confirmed t p)
        (rw (include_block t p room i) (waits_more s (per_day u) (in_block p) (block_of p) p.mined g.block t l n h (g.pool.locks t l i)))
        (include_right i) (include_pool t p)

    -- 7
    bump_right : (k : ℕ) → k < count s → in_block (after_bump s t p) k ≡ true → shares_to s k (block_to (after_bump s t p) k) ≡ true
    bump_right k lk h =
        split (enters s p t k)
        (λ y. rw (bump_to_entered s p wide g.beyond t k y) (g.pool_to_lem k lk (in_pool_lem y)))
        (λ y.
        let w = and_parts (in_block p k) (not (meets_conflict s (enters s p t) k)) (rw (bump_block s p wide g.beyond t, y) at h) in
        rw (bump_to_kept s p wide g.beyond t k y (not-true (meets_conflict s (enters s p t) k) w.1)) (g.block_to_lem k lk w.0))
      where
        in_pool_lem : enters s p t k ≡ true → in_pool p k ≡ true
        in_pool_lem y = enters_in_lem s p wide g.beyond t k y

    bump_waits : Waits s (per_day u) (λ k. enters s p t k || (in_block p k && not (meets_conflict s (enters s p t) k))) (block_of p) p.mined
    unfolding enters waiting
    bump_waits = waits_bumped s (per_day u) ok (in_pool p) (in_block p) (block_of p) p.mined g.settled g.block g.pool t l

    pub sound_bump : Sound s u (after_bump s t p)
    sound_bump =
        sound_block (after_bump s t p) (bump_length s p wide g.beyond t ∙ g.sized) (λ k b. bump_beyond s p wide g.beyond t k b ∙ g.beyond k b)
        (bump_confirmed s p wide g.beyond t) (rw (bump_block s p wide g.beyond t) bump_waits) bump_right (bump_pool s p wide g.beyond t)

  -- 6
  mine_pool_right : (t : ℕ) → t < count s → in_pool (after_mine s p) t ≡ true → shares_to s t (pool_to (after_mine s p) t) ≡ true
  mine_pool_right t l h =
      let w = and_parts (in_pool p t) (not (leaves_pool s (in_block p) t)) (rw (mine_pool s p wide g.beyond) at h) in
      rw (mine_pool_to s p wide g.beyond t (not-true (leaves_pool s (in_block p) t) w.1)) (g.pool_to_lem t l w.0)

  mine_right : (t : ℕ) → t < count s → is_confirmed (after_mine s p) t ≡ true → shares_to s t (confirmed_to (after_mine s p) t) ≡ true
  unfolding is_confirmed
  mine_right t l h =
      rw (mine_to s p wide g.beyond)
      (split (in_block p t)
      (λ y. rw y (g.block_to_lem t l y))
      (λ y. rw y (g.confirmed_to_lem t l (rw (mine_blocks s p wide g.beyond, y) at h))))

  pub sound_mine : p.mined < block_limit → Sound s u (after_mine s p)
  sound_mine lim =
      record {
        sized = mine_length s p wide g.beyond ∙ g.sized;
        beyond = λ k b. mine_beyond s p wide g.beyond k b ∙ g.beyond k b;
        settled = rw (mine_blocks s p wide g.beyond, mine_mined s p wide g.beyond) (settled_mined s (per_day u) ok (in_block p) (block_of p) p.mined g.settled g.block lim);
        pool = rw (mine_blocks s p wide g.beyond, mine_pool s p wide g.beyond, mine_mined s p wide g.beyond) (waits_mined s (per_day u) ok (in_block p) (block_of p) p.mined g.settled g.block (in_pool p) g.pool);
        block = rw (mine_block s p wide g.beyond) (waits_none s (per_day u) (block_of (after_mine s p)) (after_mine s p).mined);
        pool_to_lem = mine_pool_right;
        block_to_lem = λ t l h. absurd (false≢true (rw (mine_block s p wide g.beyond) at h));
        confirmed_to_lem = mine_right;
      }
