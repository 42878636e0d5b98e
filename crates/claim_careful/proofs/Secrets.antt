-- The two secrets are never both known beyond their owners.
-- Assumes nothing.
use Rattle.laws.proofs.Prelude.{ℕ, ◌<◌, ◌≡◌, refl, true, false, not, ◌&&◌, List, ◌⊎◌, inl, inr, not-true, either, clash, and_parts, or_parts, fails_by, any_some}
use Rattle.laws.proofs.Prelude.{zero_or_one, bit}
use Rattle.position.proofs.Rules.{parties, party_at, count, start_keys, saswap, per_day, alice, bob, shared_any, slot, holds, secret_alice, secret_bob}
use Rattle.position.specs.declared.Position.{Position}
use Rattle.sheet.proofs.Parties.{party_at_lem}
use Rattle.position.proofs.Opened.{opened}
use Rattle.claim_ledger.proofs.Sound.{Sound}
use Rattle.claim_careful.specs.Claim.{in_shared, held_by_other, known}
use Rattle.claim_careful.proofs.Has.{SharedSomewhere, somewhere}
use Rattle.claim_careful.proofs.Setting.{sheet, two_parties}
use Rattle.claim_careful.proofs.Invariant.{SecretBobOut, SecretAliceOut, Invariant}
use Rattle.claim_careful.proofs.Apart.{secret_alice_shown, secret_bob_shown, secrets_apart}

-- known: shared somewhere, or held by Alice or Bob, who lacked it at the start
known_by : (u : List ℕ) (p : Position) (i : ℕ) → known (sheet u) p i ≡ true
    → SharedSomewhere p i
    ⊎ (((bit (start_keys (sheet u) alice) i ≡ false) × (holds p alice i ≡ true)) ⊎ ((bit (start_keys (sheet u) bob) i ≡ false) × (holds p bob i ≡ true)))
unfolding known in_shared held_by_other
known_by u p i h =
    let s = sheet u in
    either (or_parts (in_shared s p i) (held_by_other s p i) h)
    (λ y. let w = any_some (count s) (λ t. bit (shared_any (slot p t)) i) y in inl (somewhere p w.0 i w.2))
    (λ y.
    let w = any_some (parties s) (λ k. not (bit (start_keys s (party_at k)) i) && holds p (party_at k) i) y in
    let x = party_at w.0 in
    let a = and_parts (not (bit (start_keys s x) i)) (holds p x i) w.2 in
    let n = not-true (bit (start_keys s x) i) a.0 in
    inr
    (either (zero_or_one x (two_parties u x (party_at_lem s w.0 w.1)))
    (λ e. inl (rw e at n, rw e at a.1))
    (λ e. inr (rw e at n, rw e at a.1))))

-- "Alice holds 5, Bob 10": each its own secret
owners : (d : ℕ) → (bit (start_keys (saswap d) alice) secret_alice ≡ true) × (bit (start_keys (saswap d) bob) secret_bob ≡ true)
unfolding opened
owners d = (refl, refl)

module _ (u : List ℕ) (one : 0 < per_day u) (p : Position) (g : Sound (sheet u) u p) (j : Invariant u p) where
  secret_alice_out : known (sheet u) p secret_alice ≡ true → SecretAliceOut p
  secret_alice_out h =
      either (known_by u p secret_alice h)
      (secret_alice_shown u p j)
      (λ y. either y (λ w. clash (owners (per_day u)).0 w.0) (λ w. absurd (j.secret_alice_kept w.1)))

  secret_bob_out : known (sheet u) p secret_bob ≡ true → SecretBobOut p
  secret_bob_out h =
      either (known_by u p secret_bob h)
      (λ w. inr (secret_bob_shown u p j w))
      (λ y. either y (λ w. inl w.1) (λ w. clash (owners (per_day u)).1 w.0))

  pub not_both_known : (known (sheet u) p secret_alice && known (sheet u) p secret_bob) ≡ false
  not_both_known =
      let a = known (sheet u) p secret_alice in
      let b = known (sheet u) p secret_bob in
      fails_by (a && b)
      (λ h. let w = and_parts a b h in secrets_apart u one p g j (secret_alice_out w.0) (secret_bob_out w.1))
