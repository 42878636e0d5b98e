-- What a careful Alice no longer sends: no party but Bob sends one of these, and they stay so.
-- Assumes nothing.
use Rattle.laws.proofs.Prelude.{ℕ, zero, suc, ◌^◌, ◌<◌, ◌≡◌, true, false, not, ◌&&◌, ◌||◌, List, ◌⊎◌, inl, inr, eqb, leb, eqb-true, eq-eqb, not-true, arith}
use Rattle.laws.proofs.Prelude.{split, either, clash, and_parts, or_parts, or_right, fails_by, bit, no_bit}
use native.Mathlib.Nat.{pow-succ'}
use Rattle.position.proofs.Rules.{required, conduct, alice, bob, contract, shared, holds, secret_alice, secret_bob, lock_a, success, refund1, spend_b}
use Rattle.position.specs.declared.Position.{Position}
use Rattle.position.proofs.Rules.{may_send, is_open, is_careful, phase, success_unshared, secret_safe, safe_to_send, send_allowed}
use Rattle.step_laws.proofs.Sending.{Sent}
use Rattle.attainable.specs.Attainable.{forgone}
use Rattle.attainable.proofs.Lacking.{no_bits}

-- under a conduct Alice and Bob send
who_sends : (n party t : ℕ) → may_send n party t ≡ true → (party ≡ alice) ⊎ (party ≡ bob)
unfolding may_send
who_sends n party t h =
    either (or_parts (eqb party alice && ((eqb n 1 && eqb t lock_a) || leb 2 n)) (eqb party bob && leb 2 n) h)
    (λ y. inl (eqb-true party alice (and_parts (eqb party alice) ((eqb n 1 && eqb t lock_a) || leb 2 n) y).0))
    (λ y. inr (eqb-true party bob (and_parts (eqb party bob) (leb 2 n) y).0))

-- a send by a party other than Bob is not of these
pub not_forgone : (s u : List ℕ) (p : Position) (party t e : ℕ) → Sent s u p party t e → eqb party bob ≡ false → forgone s u p t ≡ false
unfolding forgone is_careful is_open send_allowed
not_forgone s u p party t e w off =
    fails_by (eqb (conduct u) 2 && not (safe_to_send s p alice t))
    (λ h.
    let y = and_parts (eqb (conduct u) 2) (not (safe_to_send s p alice t)) h in
    let a : (may_send (phase p) party t && safe_to_send s p party t) ≡ true = rw (eqb-true (conduct u) 2 y.0) at w.allowed in
    let z = and_parts (may_send (phase p) party t) (safe_to_send s p party t) a in
    either (who_sends (phase p) party t z.0)
    (λ i. clash (rw i at z.1) (not-true (safe_to_send s p alice t) y.1))
    (λ i. clash (eq-eqb party bob i) off))

-- every number is below its power of two
below_power : (n : ℕ) → n < 2 ^ n
below_power zero = omega arith
below_power (suc n) = let h = below_power n in rw (pow-succ' 2 n) (omega (arith, h))

-- they stay so in a position that keeps Alice's keys and, for refund_1, what is shared of success
module _ (s u : List ℕ) (p q : Position) (t : ℕ)
    (shares : eqb t refund1 ≡ true → (i : ℕ) → bit (shared p success contract) i ≡ true → bit (shared q success contract) i ≡ true)
    (keys : holds p alice secret_bob ≡ true → holds q alice secret_bob ≡ true) where
  still_unshared : eqb t refund1 ≡ true → success_unshared q ≡ true → success_unshared p ≡ true
  unfolding success_unshared
  still_unshared e h =
      let none = eqb-true (shared q success contract) 0 h in
      let now = shared p success contract in
      eq-eqb now 0
      (no_bits now now (below_power now)
      (λ i l. fails_by (bit now i) (λ y. clash (rw none at (shares e i y)) (no_bit i))))

  still_held : secret_safe s q t ≡ true → secret_safe s p t ≡ true
  unfolding secret_safe
  still_held h =
      split (holds p alice secret_bob)
      (λ y. rw y (rw (keys y) at h))
      (λ y. or_right (not (bit (required s t) secret_alice)) (not (holds p alice secret_bob) || eqb t spend_b) (rw y))

  still_safe : safe_to_send s q alice t ≡ true → safe_to_send s p alice t ≡ true
  unfolding safe_to_send
  still_safe h =
      split (eqb t refund1)
      (λ y. rw y (still_unshared y (rw y at h)))
      (λ y. rw y (still_held (rw y at h)))

  pub still_forgone : forgone s u p t ≡ true → forgone s u q t ≡ true
  unfolding forgone
  still_forgone h =
      let y = and_parts (is_careful u) (not (safe_to_send s p alice t)) h in
      let off = fails_by (safe_to_send s q alice t) (λ z. clash (still_safe z) (not-true (safe_to_send s p alice t) y.1)) in
      rw (y.0, off)
