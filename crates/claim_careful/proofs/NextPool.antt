-- An accepted step keeps what the invariant says of transactions that have exposed a secret: confirmed, or in the pool before the deadline.
-- Assumes nothing.
use Rattle.laws.proofs.Prelude.{ℕ, ◌+◌, ◌*◌, ◌≤◌, ◌<◌, ◌≡◌, refl, sym, ◌∙◌, true, List, ◌⊎◌, inl, inr, arith, either, zero_or_one}
use Rattle.position.proofs.Rules.{count, parent, per_day, conduct, alice, contract, conflict, in_pool, in_block, block_of, holds, deadline_in, secret_alice}
use Rattle.position.specs.declared.Position.{Position}
use Rattle.position.proofs.Rules.{secret_bob, lock_a, success, refund1, revoke, refund2, timeout, spend_a, spend_revoke}
use Rattle.step_laws.proofs.Provenance.{Moved}
use Rattle.claim_ledger.proofs.Sound.{Sound}
use Rattle.claim_careful.proofs.Table.{BothSign, both_sign, parents, rivals_success, rivals_refund1, rivals_refund2}
use Rattle.claim_known.specs.Heights.{refund1_height, revoke_height, heights_rise, timeout_lock, success_deadline, refund1_deadline, refund2_deadline}
use Rattle.claim_careful.proofs.Places.{Anywhere, pool_anywhere, block_anywhere, rightful, lock_reached, payee_to}
use Rattle.claim_careful.proofs.Fate.{Fate, same, done, waits, ousted, Lasts, stays_confirmed}
use Rattle.claim_careful.proofs.Setting.{sheet, two_parties}
use Rattle.claim_careful.proofs.Came.{Came, plain, sent_now, mined_now, came}
use Rattle.claim_careful.proofs.Invariant.{Shows, Due, Invariant}
use Rattle.claim_careful.proofs.Traced.{sent_revoked}
use Rattle.claim_careful.proofs.Apart.{low, revoke_late, refund1_stands, refund2_stands, refund2_revoked}

module _ (u : List ℕ) (p : Position) (g : Sound (sheet u) u p) (j : Invariant u p) where
  -- what pays with both signatures stands only once Alice holds secret_bob
  pub both_held : (t : ℕ) → BothSign t → Anywhere p t → holds p alice secret_bob ≡ true
  both_held t b w =
      let e = w.0 in
      let r = payee_to (sheet u) t e (both_sign (per_day u) t b).pays (rightful (sheet u) u p g t e w.1) in
      either (zero_or_one e (two_parties u e r.0))
      (λ y. absurd (j.alice_unpaid t b (inl (rw y at w.1))))
      (λ y. j.sig_alice_given (j.bob_keyed t b (inl (rw y at w.1))))

  confirmed_parent : (t k : ℕ) → parent (sheet u) t ≡ k → 0 < block_of p k → 0 < block_of p (parent (sheet u) t)
  confirmed_parent t k e h = rw e h

  -- in the pool, below a confirmed lock_A
  below_lock_a : (t : ℕ) → parent (sheet u) t ≡ lock_a → (t ≡ lock_a → ⊥) → in_pool p t ≡ true → 0 < block_of p (parent (sheet u) t)
  below_lock_a t e n i = confirmed_parent t lock_a e (either (j.lock_a_first t (pool_anywhere p t i)) (λ y. absurd (n y)) (λ h. h))

module _ (u : List ℕ) (c : conduct u ≡ 2) (one : 0 < per_day u) (top : per_day u ≤ 1000) (p : Position) (g : Sound (sheet u) u p)
    (j : Invariant u p) (q : Position) (m : Moved (sheet u) u p q) (ls : Lasts (sheet u) u p q) where
  -- before this height, a rival of t was in the block and is now confirmed
  record Ousted (t height : ℕ) : Type 0 where
    by : ℕ
    low_by : by < count (sheet u)
    rival : conflict (sheet u) by t ≡ true
    there : in_block p by ≡ true
    now : 0 < block_of q by
    before : p.mined < height

  module _ (t height : ℕ) (n : t < 15) (e : deadline_in (sheet u) u p t ≡ height) where
    fate : p.mined < height → Fate (sheet u) u p q t → Due q t height ⊎ Ousted t height
    fate l (same i now) = inl (inr (i, rw now l))
    fate l (done h) = inl (inl h)
    fate l (waits i now f) = let ne : p.mined + 1 ≡ height → ⊥ = λ z. f (z ∙ sym e) in inl (inr (i, omega arith))
    fate l (ousted k lk h b now) = inr (record { by = k; low_by = lk; rival = h; there = b; now = now; before = l })

    -- what is due stays so, or a rival of it is mined
    still_due_lem : (in_pool p t ≡ true → 0 < block_of p (parent (sheet u) t)) → Due p t height → Due q t height ⊎ Ousted t height
    still_due_lem up y =
        either y
        (λ h. inl (inl (stays_confirmed ls t (low u t n) h)))
        (λ w. fate w.1 (ls.pool t (low u t n) (up w.0) w.0))

    -- what exposes its secret now is due
    now_due : (i : ℕ) → ((i ≡ secret_alice → ⊥) → (i ≡ secret_bob → ⊥) → ⊥) → Came u p q t contract i → Due q t height
    now_due i a (plain x y k f) = absurd (a x y)
    now_due i a (sent_now party s l there now x) = inr (there, rw (now, ← e) l)
    now_due i a (mined_now b to h x) = inl h

  -- success
  success_at : deadline_in (sheet u) u p success ≡ refund1_height (per_day u)
  unfolding deadline_in
  success_at = success_deadline (per_day u) (block_of p) one top

  success_lost : Shows p success secret_bob → Ousted success (refund1_height (per_day u))
      → (0 < block_of q spend_a) ⊎ Due q success (refund1_height (per_day u))
  success_lost x o =
      either (rivals_success (per_day u) o.by o.low_by o.rival)
      (λ e. inr (inl (rw e at o.now)))
      (λ y.
      either y
      (λ e. absurd (j.refund1_alone (block_anywhere p refund1 (rw e at o.there)) (secret_bob, x)))
      (λ z.
      either z
      (λ e. absurd (omega (arith, revoke_late u p g (block_anywhere p revoke (rw e at o.there)), o.before, heights_rise (per_day u) one)))
      (λ e. inl (rw e at o.now))))

  pub next_success_due : Shows q success secret_bob → (0 < block_of q spend_a) ⊎ Due q success (refund1_height (per_day u))
  next_success_due h =
      let height = refund1_height (per_day u) in
      either ((m.slots success).shares contract secret_bob (omega arith) h)
      (λ x.
      either (j.success_due x)
      (λ y. inl (stays_confirmed ls spend_a (low u spend_a (omega arith)) y))
      (λ y.
      either (still_due_lem success height (omega arith) success_at (below_lock_a u p g j success (parents (per_day u)).0 (λ e. omega arith)) y)
      inr
      (success_lost x)))
      (λ y. inr (now_due success height (omega arith) success_at secret_bob (λ a b. b refl) (came u c p q success contract secret_bob y)))

  -- refund_1
  refund1_at : deadline_in (sheet u) u p refund1 ≡ revoke_height (per_day u)
  unfolding deadline_in
  refund1_at = refund1_deadline (per_day u) (block_of p) one top

  refund1_lost : Shows p refund1 secret_alice → Ousted refund1 (revoke_height (per_day u)) → Due q refund1 (revoke_height (per_day u))
  refund1_lost x o =
      let w = refund1_stands u p j x in
      either (rivals_refund1 (per_day u) o.by o.low_by o.rival)
      (λ e. absurd (j.refund1_alone w (j.success_shared (block_anywhere p success (rw e at o.there)))))
      (λ y.
      either y
      (λ e. inl (rw e at o.now))
      (λ z.
      either z
      (λ e. absurd (omega (arith, revoke_late u p g (block_anywhere p revoke (rw e at o.there)), o.before)))
      (λ e. absurd (j.refund1_alone w (j.secret_bob_given (both_held u p g j spend_a (inl refl) (block_anywhere p spend_a (rw e at o.there))))))))

  pub next_refund1_due : Shows q refund1 secret_alice → Due q refund1 (revoke_height (per_day u))
  next_refund1_due h =
      let height = revoke_height (per_day u) in
      either ((m.slots refund1).shares contract secret_alice (omega arith) h)
      (λ x.
      either (still_due_lem refund1 height (omega arith) refund1_at (below_lock_a u p g j refund1 (parents (per_day u)).1 (λ e. omega arith)) (j.refund1_due x))
      (λ y. y)
      (refund1_lost x))
      (λ y. now_due refund1 height (omega arith) refund1_at secret_alice (λ a b. a refl) (came u c p q refund1 contract secret_alice y))

  -- refund_2
  module _ (r : 0 < block_of p revoke) where
    end : ℕ
    end = block_of p revoke + 2 * per_day u

    refund2_at : deadline_in (sheet u) u p refund2 ≡ end
    unfolding deadline_in end
    refund2_at =
        refund2_deadline (per_day u) (block_of p) one r
        (omega (arith, g.settled.numbered revoke (low u revoke (omega arith)), g.settled.limit))

    refund2_lost : Shows p refund2 secret_alice → Ousted refund2 end → Due q refund2 end
    unfolding end
    refund2_lost x o =
        either (rivals_refund2 (per_day u) o.by o.low_by o.rival)
        (λ e. inl (rw e at o.now))
        (λ y.
        either y
        (λ e.
        let lock = rw (timeout_lock (per_day u) (block_of p) r) at (lock_reached (sheet u) u p g timeout (block_anywhere p timeout (rw e at o.there))) in
        absurd (omega (arith, o.before)))
        (λ e.
        let held = both_held u p g j spend_revoke (inr (inl refl)) (block_anywhere p spend_revoke (rw e at o.there)) in
        absurd (j.refund2_alone (refund2_stands u p j x) held)))

    same_end : Due q refund2 end → Due q refund2 (block_of q revoke + 2 * per_day u)
    unfolding end
    same_end w = rw (ls.confirmed revoke (low u revoke (omega arith)) r) w

  came_revoked : Came u p q refund2 contract secret_alice → 0 < block_of p revoke
  came_revoked (plain x y k f) = absurd (x refl)
  came_revoked (sent_now party s l there now x) = sent_revoked u p g party contract s
  came_revoked (mined_now b to h x) = refund2_revoked u p g (block_anywhere p refund2 b)

  pub next_refund2_due : Shows q refund2 secret_alice → Due q refund2 (block_of q revoke + 2 * per_day u)
  unfolding end
  next_refund2_due h =
      either ((m.slots refund2).shares contract secret_alice (omega arith) h)
      (λ x.
      let r = refund2_revoked u p g (refund2_stands u p j x) in
      let up = confirmed_parent u p g j refund2 revoke (parents (per_day u)).2 in
      same_end r
      (either (still_due_lem refund2 (end r) (omega arith) (refund2_at r) (λ i. up r) (j.refund2_due x))
      (λ y. y)
      (refund2_lost r x)))
      (λ y.
      let w = came u c p q refund2 contract secret_alice y in
      let r = came_revoked w in
      same_end r (now_due refund2 (end r) (omega arith) (refund2_at r) secret_alice (λ a b. a refl) w))
