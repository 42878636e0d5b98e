-- What careful conduct on the SASwap sheet says of an accepted send.
-- Assumes nothing.
use Rattle.laws.proofs.Prelude.{ℕ, ◌≤◌, ◌<◌, ◌≡◌, true, not, ◌&&◌, ◌||◌, false≢true, List, ◌⊎◌, inl, inr, eqb, ltb, leb, eqb-true, ltb-true, leb-true, arith, split}
use Rattle.laws.proofs.Prelude.{either, clash, and_parts, or_parts, bit, no_bit}
use Rattle.position.proofs.Rules.{conduct, alice, bob, contract, block_of, is_confirmed, shared, holds, secret_bob, lock_a, lock_b, success, refund1, refund2}
use Rattle.position.specs.declared.Position.{Position}
use Rattle.position.proofs.Rules.{first_shares_made, may_send, is_careful, phase, success_unshared, secret_safe, safe_to_send, send_allowed}
use Rattle.position.proofs.Opened.{opened}
use Rattle.step_laws.proofs.Sending.{Sent}
use Rattle.claim_careful.proofs.Setting.{sheet, allowed}

-- "Phase 3: lock_B confirmed; else 2: lock_A confirmed"
phase_locked : (p : Position) → 2 ≤ phase p → (0 < block_of p lock_b) ⊎ (0 < block_of p lock_a)
unfolding phase is_confirmed
phase_locked p h =
    split (ltb 0 (block_of p lock_b))
    (λ y. inl (ltb-true 0 (block_of p lock_b) y))
    (λ y.
    split (ltb 0 (block_of p lock_a))
    (λ z. inr (ltb-true 0 (block_of p lock_a) z))
    (λ z.
    split (first_shares_made p alice && first_shares_made p bob)
    (λ w. absurd (early (rw (y, z, w, phase) at h)))
    (λ w. absurd (earliest (rw (y, z, w, phase) at h)))))
  where
    early : 2 ≤ 1 → ⊥
    early k = omega arith

    earliest : 2 ≤ 0 → ⊥
    earliest k = omega arith

-- a send is of lock_A, or in phase 2 or 3
sends_late : (n party t : ℕ) → may_send n party t ≡ true → (t ≡ lock_a) ⊎ (2 ≤ n)
unfolding may_send
sends_late n party t h =
    either (or_parts (eqb party alice && ((eqb n 1 && eqb t lock_a) || leb 2 n)) (eqb party bob && leb 2 n) h)
    (λ y.
    either (or_parts (eqb n 1 && eqb t lock_a) (leb 2 n) (and_parts (eqb party alice) ((eqb n 1 && eqb t lock_a) || leb 2 n) y).1)
    (λ z. inl (eqb-true t lock_a (and_parts (eqb n 1) (eqb t lock_a) z).1))
    (λ z. inr (leb-true 2 n z)))
    (λ y. inr (leb-true 2 n (and_parts (eqb party bob) (leb 2 n) y).1))

module _ (u : List ℕ) (c : conduct u ≡ 2) where
  -- who may send, and what
  may_send_lem : (p : Position) (party t e : ℕ) → Sent (sheet u) u p party t e
      → (may_send (phase p) party t ≡ true) × (safe_to_send (sheet u) p party t ≡ true)
  unfolding send_allowed is_careful
  may_send_lem p party t e w =
      let x = may_send (phase p) party t && (not (is_careful u) || safe_to_send (sheet u) p party t) in
      let a = and_parts (may_send (phase p) party t) (not (is_careful u) || safe_to_send (sheet u) p party t) (allowed u c x w.allowed) in
      (a.0, rw c at a.1)

module _ (u : List ℕ) (c : conduct u ≡ 2) (p : Position) where
  -- a send is of lock_A, or lock_A or lock_B is confirmed
  pub send_locked : (party t e : ℕ) → Sent (sheet u) u p party t e → (t ≡ lock_a) ⊎ ((0 < block_of p lock_b) ⊎ (0 < block_of p lock_a))
  send_locked party t e w = either (sends_late (phase p) party t (may_send_lem u c p party t e w).0) inl (λ y. inr (phase_locked p y))

  -- "Careful only: Alice sends refund_1 only while success has no shared entry"
  pub alice_refund1 : (e i : ℕ) → Sent (sheet u) u p alice refund1 e → bit (shared p success contract) i ≡ true → ⊥
  unfolding safe_to_send success_unshared
  alice_refund1 e i w h =
      let z = eqb-true (shared p success contract) 0 (may_send_lem u c p alice refund1 e w).1 in
      clash (rw z at h) (no_bit i)

  -- "once she holds secretBob she sends spend_B only"
  pub alice_refund2 : (e : ℕ) → Sent (sheet u) u p alice refund2 e → holds p alice secret_bob ≡ true → ⊥
  unfolding safe_to_send secret_safe opened
  alice_refund2 e w h = false≢true (rw h at (may_send_lem u c p alice refund2 e w).1)
