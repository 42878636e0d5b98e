-- An accepted step keeps what the invariant says of transactions that pay a party.
-- Assumes nothing.
use Rattle.laws.proofs.Prelude.{ℕ, ◌<◌, ◌≡◌, sym, true, false, List, ◌⊎◌, inl, inr, arith, either, clash}
use Rattle.position.proofs.Rules.{per_day, conduct, alice, bob, destinations, is_contract, holds, sig_alice, sig_bob, secret_alice, secret_bob, success, refund1}
use Rattle.position.specs.declared.Position.{Position}
use Rattle.position.proofs.Rules.{refund2, timeout, spend_b}
use Rattle.step_laws.proofs.Sending.{Sent}
use Rattle.step_laws.proofs.Provenance.{Stands, Moved}
use Rattle.claim_careful.proofs.Table.{BothSign, both_sign, needs, spend_b_pays, sig_alice_plain, sig_bob_plain}
use Rattle.claim_careful.proofs.Places.{block_stands}
use Rattle.claim_careful.proofs.Has.{Has, held, shown, secret}
use Rattle.claim_careful.proofs.Setting.{sheet}
use Rattle.claim_careful.proofs.Came.{Came, plain, sent_now, mined_now, came}
use Rattle.claim_careful.proofs.Invariant.{Touched, SecretBobOut, SecretAliceOut, Invariant}
use Rattle.claim_careful.proofs.Apart.{secret_alice_shown, secret_bob_shown}
use Rattle.claim_careful.proofs.Traced.{sends_self, signs, stays_shown}

module _ (u : List ℕ) (c : conduct u ≡ 2) (p : Position) (j : Invariant u p) (q : Position) (m : Moved (sheet u) u p q) where
  -- an entry or a shared signature of a later transaction was there, or is sent now
  traced_touch : (t e : ℕ) → e < destinations → timeout < t → Touched q t e → Touched p t e ⊎ ((party : ℕ) × Sent (sheet u) u p party t e)
  traced_touch t e l n w =
      either w
      (λ h. either ((m.slots t).entries e h) (λ y. inl (inl y)) inr)
      (λ h. either ((m.slots t).shares e h.0 l h.1) (λ y. inl (inr (h.0, y))) (λ y. from h.0 (came u c p q t e h.0 y)))
    where
      from : (i : ℕ) → Came u p q t e i → Touched p t e ⊎ ((party : ℕ) × Sent (sheet u) u p party t e)
      from i (plain x y k f) = absurd (omega arith)
      from i (sent_now party s k there now x) = inr (party, s)
      from i (mined_now b to h x) = inl (inl (block_stands p t e b to))

  -- a paying transaction is sent by its payee
  by_payee : (party t e : ℕ) → is_contract (sheet u) t ≡ false → Sent (sheet u) u p party t e → Sent (sheet u) u p e t e
  by_payee party t e n s = rw (sym (sends_self (sheet u) party t e n s.right)) at s

  pub next_alice_unpaid : (t : ℕ) → BothSign t → Touched q t alice → ⊥
  next_alice_unpaid t b w =
      let f = both_sign (per_day u) t b in
      either (traced_touch t alice (omega arith) f.later w)
      (j.alice_unpaid t b)
      (λ y. has (signs u p alice t alice sig_bob (by_payee y.0 t alice f.pays y.1) (omega arith) f.needs_bob))
    where
      has : Has (sheet u) p alice t alice sig_bob → ⊥
      has (held h) = j.sig_bob_kept h
      has (shown h) = j.alice_unpaid t b (inr (sig_bob, h))
      has (secret n x) = clash n (sig_bob_plain (per_day u))

  pub next_bob_keyed : (t : ℕ) → BothSign t → Touched q t bob → holds q bob sig_alice ≡ true
  next_bob_keyed t b w =
      let f = both_sign (per_day u) t b in
      m.keys_kept bob sig_alice
      (either (traced_touch t bob (omega arith) f.later w)
      (j.bob_keyed t b)
      (λ y. has (signs u p bob t bob sig_alice (by_payee y.0 t bob f.pays y.1) (omega arith) f.needs_alice)))
    where
      has : Has (sheet u) p bob t bob sig_alice → holds p bob sig_alice ≡ true
      has (held h) = h
      has (shown h) = j.bob_keyed t b (inr (sig_alice, h))
      has (secret n x) = clash n (sig_alice_plain (per_day u))

  -- spend_B
  pub next_spend_b_alice : Stands q spend_b alice → SecretBobOut q
  next_spend_b_alice h =
      either
      (either ((m.slots spend_b).entries alice h)
      j.spend_b_alice
      (λ y.
      let w = by_payee y.0 spend_b alice (spend_b_pays (per_day u)) y.1 in
      has (signs u p alice spend_b alice secret_bob w (omega arith) (needs (per_day u)).spend_b_secret_bob)))
      (λ k. inl (m.keys_kept alice secret_bob k))
      (λ k. inr (stays_shown u p q m success secret_bob k))
    where
      has : Has (sheet u) p alice spend_b alice secret_bob → SecretBobOut p
      has (held k) = inl k
      has (shown k) = inr (secret_bob_shown u p j (spend_b, alice, omega arith, k))
      has (secret n x) = inr (secret_bob_shown u p j x)

  pub next_spend_b_bob : Stands q spend_b bob → SecretAliceOut q
  next_spend_b_bob h =
      either
      (either ((m.slots spend_b).entries bob h)
      j.spend_b_bob
      (λ y.
      let w = by_payee y.0 spend_b bob (spend_b_pays (per_day u)) y.1 in
      has (signs u p bob spend_b bob secret_alice w (omega arith) (needs (per_day u)).spend_b_secret_alice)))
      (λ k. inl (stays_shown u p q m refund1 secret_alice k))
      (λ k. inr (stays_shown u p q m refund2 secret_alice k))
    where
      has : Has (sheet u) p bob spend_b bob secret_alice → SecretAliceOut p
      has (held k) = absurd (j.secret_alice_kept k)
      has (shown k) = secret_alice_shown u p j (spend_b, bob, omega arith, k)
      has (secret n x) = secret_alice_shown u p j x
