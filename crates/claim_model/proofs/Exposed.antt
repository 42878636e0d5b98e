-- What holds beside the invariant of careful conduct: a confirmed contract transaction has exposed its signatures, each party keeps its own
-- secret, and success is shared only once lock_B is confirmed.
-- Assumes nothing.
use Rattle.laws.proofs.Prelude.{ℕ, ◌≤◌, ◌<◌, ◌≡◌, refl, ◌∙◌, true, not, ◌&&◌, false≢true, List, eqb, leb, length, ltb-true, arith, split, either, clash, and_parts}
use Rattle.laws.proofs.Prelude.{or_right, bit_or_lem, bit}
use Rattle.position.proofs.Rules.{count, Checked, saswap, per_day, conduct, Slot, Step, alice, bob, contract, is_contract, exposed_mask, standing, entry_to, with_pool}
use Rattle.position.proofs.Rules.{with_block, with_confirmed, shared_for, with_shared, fields_right, confirm_entry, secret_alice, secret_bob, lock_a, lock_b, success, refund1}
use Rattle.position.proofs.Rules.{timeout, start, slot, in_block, block_to, block_of, is_confirmed, sent, shared, holds, first_shares_made, phase, late, alice_shares}
use Rattle.position.specs.declared.Position.{Position}
use Rattle.position.proofs.Rules.{may_share, step_refusal, leaves_pool, mine_slot, with_mined, after_mine, effect}
use Rattle.position.proofs.Changed.{all_slot}
use Rattle.position.proofs.Opened.{opened}
use Rattle.position.proofs.Starts.{start_slot}
use Rattle.step_laws.proofs.AfterBlocks.{mine_blocks}
use Rattle.step_laws.proofs.Moved.{moved}
use Rattle.step_laws.proofs.Provenance.{Shown, by_first_shares, by_share, by_send, by_block, Moved}
use Rattle.step_laws.proofs.Quiet.{lasting}
use Rattle.claim_ledger.proofs.Sound.{Sound}
use Rattle.claim_careful.proofs.Came.{first_range}
use Rattle.claim_careful.proofs.Fate.{Lasts, lasts, stays_confirmed}
use Rattle.claim_careful.proofs.Invariant.{Shows, SuccessShared, Invariant}
use Rattle.claim_careful.proofs.Places.{block_anywhere, contract_to}
use Rattle.claim_careful.proofs.Setting.{sheet, allowed}
use Rattle.claim_careful.proofs.Start.{none_shared}
use Rattle.claim_careful.proofs.Table.{fifteen}
use Rattle.claim_careful.proofs.Traced.{stays_shown, sent_success}

pub record Exposed (u : List ℕ) (p : Position) : Type 0 where
  pub exposed : (t i : ℕ) → t < 15 → is_contract (sheet u) t ≡ true → 0 < block_of p t → bit (exposed_mask (sheet u) t) i ≡ true → Shows p t i
  pub alice_own : holds p alice secret_alice ≡ true
  pub bob_own : holds p bob secret_bob ≡ true
  pub lock_b_first : SuccessShared p → 0 < block_of p lock_b

-- a mined entry for the contract exposes its signatures
slot_shows : (s : List ℕ) (p : Position) (t : ℕ) (x : Slot) (i : ℕ) → standing x.block ≡ true → entry_to x.block ≡ contract
    → bit (exposed_mask s t) i ≡ true → bit (shared_for (mine_slot s p t x) contract) i ≡ true
unfolding mine_slot confirm_entry shared_for with_pool with_block with_confirmed with_shared
slot_shows s p t x i on to h =
    let w = bit_or_lem x.contract (exposed_mask s t) i ∙ or_right (bit x.contract i) (bit (exposed_mask s t) i) h in
    split (leaves_pool s (in_block p) t) (λ y. rw (y, on, to) w) (λ y. rw (y, on, to) w)

mine_shows : (s : List ℕ) (p : Position) (t i : ℕ) → t < count s → t < length p.slots → in_block p t ≡ true → block_to p t ≡ contract
    → bit (exposed_mask s t) i ≡ true → Shows (after_mine s p) t i
unfolding shared in_block block_to after_mine with_mined slot
mine_shows s p t i l m on to h = rw (all_slot s (mine_slot s p) p t l m) (slot_shows s p t (slot p t) i on to h)

-- "Phase 3: lock_B confirmed"
phase_three : (p : Position) → eqb (phase p) 3 ≡ true → 0 < block_of p lock_b
unfolding phase is_confirmed
phase_three p h =
    split (is_confirmed p lock_b)
    (λ y. ltb-true 0 (block_of p lock_b) y)
    (λ y.
    split (is_confirmed p lock_a)
    (λ z. absurd (false≢true (rw (y, z) at h)))
    (λ z.
    split (first_shares_made p alice && first_shares_made p bob)
    (λ w. absurd (false≢true (rw (y, z, w) at h)))
    (λ w. absurd (false≢true (rw (y, z, w) at h)))))

module _ (u : List ℕ) (c : conduct u ≡ 2) (one : 0 < per_day u) (top : per_day u ≤ 1000) (p : Position) (g : Sound (sheet u) u p)
    (j : Invariant u p) (e : Exposed u p) where
  few : (t : ℕ) → t < 15 → t < length p.slots
  few t l = omega (arith, g.sized, l)

  -- how success gets a shared signature: Alice shares it in phase 3, or it has one
  shown_locked : (q : Position) (i : ℕ) → Shown (sheet u) u p q success contract i → 0 < block_of p lock_b
  unfolding may_share alice_shares
  shown_locked q i (by_first_shares party m to b) =
      clash (m (λ k. leb refund1 k && leb k timeout) (first_range party)) refl
  shown_locked q i (by_share party n to h b) =
      let x = eqb success success && (not (sent p refund1) && not (late (sheet u) u p)) in
      let a = and_parts (eqb party alice) (eqb (phase p) 3 && x) (allowed u c (may_share (sheet u) u p party success) h) in
      phase_three p (and_parts (eqb (phase p) 3) x a.1).0
  shown_locked q i (by_send party w l there now b) = e.lock_b_first (sent_success u c one top p g j party contract w)
  shown_locked q i (by_block there to now b) = e.lock_b_first (j.success_shared (block_anywhere p success there))

  module _ (q : Position) (m : Moved (sheet u) u p q) (ls : Lasts (sheet u) u p q) where
    next_locked : SuccessShared q → 0 < block_of q lock_b
    next_locked w =
        stays_confirmed ls lock_b (rw (fifteen (per_day u)) (omega arith))
        (either ((m.slots success).shares contract w.0 (omega arith) w.1) (λ y. e.lock_b_first (w.0, y)) (λ y. shown_locked q w.0 y))

    -- what was confirmed before
    kept_shows : (t i : ℕ) → t < 15 → is_contract (sheet u) t ≡ true → 0 < block_of p t → bit (exposed_mask (sheet u) t) i ≡ true → Shows q t i
    kept_shows t i l k h b = stays_shown u p q m t i (e.exposed t i l k h b)

    next : ((t i : ℕ) → t < 15 → is_contract (sheet u) t ≡ true → 0 < block_of q t → bit (exposed_mask (sheet u) t) i ≡ true → Shows q t i) → Exposed u q
    next x =
        record {
          exposed = x;
          alice_own = m.keys_kept alice secret_alice e.alice_own;
          bob_own = m.keys_kept bob secret_bob e.bob_own;
          lock_b_first = next_locked;
        }

  -- what a mined block confirms
  module _ (m : Moved (sheet u) u p (after_mine (sheet u) p)) (ls : Lasts (sheet u) u p (after_mine (sheet u) p)) where
    mined_shows : (t i : ℕ) → t < 15 → is_contract (sheet u) t ≡ true → 0 < block_of (after_mine (sheet u) p) t → bit (exposed_mask (sheet u) t) i ≡ true
        → Shows (after_mine (sheet u) p) t i
    mined_shows t i l k h b =
        let s = sheet u in
        let low : t < count s = rw (fifteen (per_day u)) l in
        let wide : count s ≤ length p.slots = omega (arith, g.sized, fifteen (per_day u)) in
        let v = rw (mine_blocks s p wide g.beyond) at h in
        split (in_block p t)
        (λ y. mine_shows s p t i low (few t l) y (contract_to s t (block_to p t) k (g.block_to_lem t low y)) b)
        (λ y. kept_shows (after_mine s p) m ls t i l k (rw y at v) b)

  pub exposed_effect : Checked (sheet u) → (x : Step) → fields_right (sheet u) u x ≡ true → step_refusal (sheet u) u p x ≡ 0 → Exposed u (effect (sheet u) p x)
  exposed_effect ok x f h =
      let s = sheet u in
      let q = effect s p x in
      let m = moved s u p x f h in
      let ls = lasts s u ok p g x f h in
      let wide : count s ≤ length p.slots = omega (arith, g.sized, fifteen (per_day u)) in
      either (lasting s u p wide g.beyond x f h)
      (λ y. next q m ls (λ t i l k now b. kept_shows q m ls t i l k (rw (y.heights t) at now) b))
      (λ y.
      let mm = rw y.0 at m in
      let ml = rw y.0 at ls in
      rw y.0 (next (after_mine s p) mm ml (mined_shows mm ml)))

own_keys : (d : ℕ) → (holds (start (saswap d)) alice secret_alice ≡ true) × (holds (start (saswap d)) bob secret_bob ≡ true)
unfolding opened
own_keys d = (refl, refl)

none_confirmed : (s : List ℕ) (t : ℕ) → block_of (start s) t ≡ 0
unfolding block_of
none_confirmed s t = rw (block_of, start_slot s t)

pub exposed_start : (u : List ℕ) → Exposed u (start (sheet u))
exposed_start u =
    record {
      exposed = λ t i l k h b. absurd (omega (arith, none_confirmed (sheet u) t, h));
      alice_own = (own_keys (per_day u)).0;
      bob_own = (own_keys (per_day u)).1;
      lock_b_first = λ w. none_shared (sheet u) success contract w.0 w.1;
    }
