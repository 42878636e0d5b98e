-- In one position: the two secrets are never both out.
-- Assumes nothing.
use Rattle.laws.proofs.Prelude.{ℕ, ◌≤◌, ◌<◌, ◌≡◌, true, List, inl, inr, arith, either}
use Rattle.position.proofs.Rules.{count, per_day, conflict, block_of, secret_alice, secret_bob, success, refund1, revoke, refund2, spend_a}
use Rattle.position.specs.declared.Position.{Position}
use Rattle.claim_ledger.proofs.Sound.{Sound}
use Rattle.claim_careful.proofs.Table.{fifteen, revoke_rivals}
use Rattle.claim_known.specs.Heights.{refund1_height, revoke_height, heights_rise, refund1_lock, revoke_lock, refund2_waits}
use Rattle.claim_careful.proofs.Places.{Anywhere, pool_anywhere, confirmed_anywhere, lock_reached}
use Rattle.claim_careful.proofs.Setting.{sheet}
use Rattle.claim_careful.proofs.Has.{SharedSomewhere}
use Rattle.claim_careful.proofs.Invariant.{Shows, SuccessShared, SecretBobOut, SecretAliceOut, Invariant}

pub low : (u : List ℕ) (t : ℕ) → t < 15 → t < count (sheet u)
low u t l = rw (fifteen (per_day u)) l

module _ (u : List ℕ) (p : Position) (g : Sound (sheet u) u p) where
  -- two different rivals are not both confirmed
  pub one_confirmed : (t k : ℕ) → t < 15 → k < 15 → conflict (sheet u) k t ≡ true → (k ≡ t → ⊥) → 0 < block_of p t → 0 < block_of p k → ⊥
  one_confirmed t k l n h d a b = d (g.settled.alone t k (low u t l) (low u k n) a b h)

  -- heights: refund_1, revoke and refund_2 anywhere
  pub refund1_late : Anywhere p refund1 → refund1_height (per_day u) ≤ p.mined
  refund1_late w = rw (refund1_lock (per_day u) (block_of p)) at (lock_reached (sheet u) u p g refund1 w)

  pub revoke_late : Anywhere p revoke → revoke_height (per_day u) ≤ p.mined
  revoke_late w = rw (revoke_lock (per_day u) (block_of p)) at (lock_reached (sheet u) u p g revoke w)

  pub refund2_revoked : Anywhere p refund2 → 0 < block_of p revoke
  refund2_revoked w =
      refund2_waits (per_day u) p.mined (block_of p) (omega (arith, g.settled.limit)) (lock_reached (sheet u) u p g refund2 w)

module _ (u : List ℕ) (p : Position) (j : Invariant u p) where
  -- a refund that has exposed secret_alice stands somewhere
  pub refund1_stands : Shows p refund1 secret_alice → Anywhere p refund1
  refund1_stands h = either (j.refund1_due h) (confirmed_anywhere p refund1) (λ y. pool_anywhere p refund1 y.0)

  pub refund2_stands : Shows p refund2 secret_alice → Anywhere p refund2
  refund2_stands h = either (j.refund2_due h) (confirmed_anywhere p refund2) (λ y. pool_anywhere p refund2 y.0)

  -- a secret that is shared is shared there
  pub secret_alice_shown : SharedSomewhere p secret_alice → SecretAliceOut p
  secret_alice_shown w =
      let a = j.secret_alice_at w.0 w.1 w.2 w.3 in
      either a.1 (λ e. inl (rw (a.0, e) at w.3)) (λ e. inr (rw (a.0, e) at w.3))

  pub secret_bob_shown : SharedSomewhere p secret_bob → Shows p success secret_bob
  secret_bob_shown w = let a = j.secret_bob_at w.0 w.1 w.2 w.3 in rw (a.0, a.1) at w.3

  pub bob_out : SecretBobOut p → SuccessShared p
  bob_out w = either w j.secret_bob_given (λ h. (secret_bob, h))

module _ (u : List ℕ) (one : 0 < per_day u) (p : Position) (g : Sound (sheet u) u p) (j : Invariant u p) where
  -- once revoke is confirmed, secret_bob is not shared
  pub revoked_unshown : 0 < block_of p revoke → Shows p success secret_bob → ⊥
  revoked_unshown r h =
      let d = per_day u in
      either (j.success_due h)
      (one_confirmed u p g revoke spend_a (omega arith) (omega arith) (revoke_rivals d).1 (λ e. omega arith) r)
      (λ y.
      either y
      (one_confirmed u p g revoke success (omega arith) (omega arith) (revoke_rivals d).0 (λ e. omega arith) r)
      (λ w. omega (arith, revoke_late u p g (confirmed_anywhere p revoke r), w.1, heights_rise d one)))

  pub refund2_apart : Anywhere p refund2 → SecretBobOut p → ⊥
  refund2_apart w b = either b (j.refund2_alone w) (revoked_unshown (refund2_revoked u p g w))

  pub secrets_apart : SecretAliceOut p → SecretBobOut p → ⊥
  secrets_apart a b =
      either a
      (λ h. j.refund1_alone (refund1_stands u p j h) (bob_out u p j b))
      (λ h. refund2_apart (refund2_stands u p j h) b)
