-- A fair ending: who is paid, and what the other party then has.
-- Assumes nothing.
use Rattle.laws.proofs.Prelude.{ℕ, ◌<◌, ◌≡◌, refl, Bool, true, false, not, ◌&&◌, ◌||◌, List, inl, inr, eqb, eqb-true, eq-eqb, arith, either, clash, or_parts, or_right}
use Rattle.laws.proofs.Prelude.{fails_by, bit}
use Rattle.position.proofs.Rules.{secrets, saswap, per_day, conduct, alice, bob, contract, exposed_mask, signed, secret_alice, secret_bob, lock_a, lock_b, success, refund1}
use Rattle.position.proofs.Rules.{refund2, spend_b, spend_success, spend_refund1_alice, spend_refund2, spend_timeout, block_of, is_confirmed, shared, holds, sender_has}
use Rattle.position.specs.declared.Position.{Position}
use Rattle.position.proofs.Rules.{phase, success_unshared, is_payout, is_payout_to, holder_in}
use Rattle.position.proofs.Opened.{opened}
use Rattle.step_laws.specs.Wellformed.{Wellformed}
use Rattle.claim_ledger.proofs.Sound.{Sound}
use Rattle.claim_careful.specs.Claim.{in_shared}
use Rattle.claim_careful.proofs.Apart.{secret_alice_shown, secret_bob_shown, bob_out, secrets_apart}
use Rattle.claim_careful.proofs.Invariant.{SecretBobOut, SecretAliceOut, Invariant}
use Rattle.claim_careful.proofs.Payouts.{Paid, paid, stands, pays, above, not_both_paid}
use Rattle.claim_careful.proofs.Setting.{sheet}
use Rattle.claim_careful.proofs.Table.{needs, pays_alice, pays_bob_lem, contracts, below}
use Rattle.claim_model.specs.Words.{swap_timed_out}
use Rattle.claim_model.specs.Claim.{Takes, Fair}
use Rattle.claim_model.proofs.Shared.{shown_in_lem, held_has, shared_has, signs_spend_b, some_bit, shared_shown}
use Rattle.claim_model.proofs.AnySheets.{has_block}
use Rattle.claim_model.proofs.Endings.{ended}
use Rattle.claim_model.proofs.Taking.{confirmed_at, in_three, taken_by, alice_sends, bob_sends}
use Rattle.claim_model.proofs.Exposed.{Exposed}

-- column "needs": success exposes secret_bob, the refunds secret_alice
exposures : (d : ℕ)
    → (bit (exposed_mask (saswap d) success) secret_bob ≡ true)
    × (bit (exposed_mask (saswap d) refund1) secret_alice ≡ true)
    × (bit (exposed_mask (saswap d) refund2) secret_alice ≡ true)
unfolding opened
exposures d = (refl, refl, refl)

-- "secrets 12"
both_secret : (d : ℕ) → (bit (secrets (saswap d)) secret_alice ≡ true) × (bit (secrets (saswap d)) secret_bob ≡ true)
unfolding opened
both_secret d = (refl, refl)

-- a secret that Alice lacks, by key and in shared knowledge
known : (k o : Bool) → (not k && not o) ≡ false → (k || o) ≡ true
known true o h = refl
known false true h = refl
known false false h = clash refl h

-- a coin that is paid out is paid to its holder
to_holder : (s : List ℕ) (held : ℕ → ℕ) (coin : ℕ) → is_payout s held coin ≡ true → is_payout_to s held (held coin) coin ≡ true
unfolding is_payout_to
to_holder s held coin h = rw (h, eq-eqb (held coin) (held coin) refl)

module _ (u : List ℕ) (c : conduct u ≡ 2) (one : 0 < per_day u) (p : Position) (g : Sound (sheet u) u p) (j : Invariant u p) (x : Exposed u p) where
  -- ---- coin A to Alice
  alice_refunded : Paid (sheet u) p alice lock_a → in_shared (sheet u) p secret_alice ≡ true
  alice_refunded a =
      let d = per_day u in
      let w = below d in
      either (pays_alice d a.by (pays u one p g j alice lock_a a))
      (λ y. absurd (j.alice_unpaid a.by y (inl (stands u one p g j alice lock_a a))))
      (λ y.
      either y
      (λ e.
      let h = above u one p g j spend_refund1_alice refund1 w.0 (rw e at a.confirmed) in
      shown_in_lem u p refund1 secret_alice (omega arith) (x.exposed refund1 secret_alice (omega arith) (contracts d).1 h (exposures d).1))
      (λ e.
      let h = above u one p g j spend_refund2 refund2 w.1 (rw e at a.confirmed) in
      shown_in_lem u p refund2 secret_alice (omega arith) (x.exposed refund2 secret_alice (omega arith) (contracts d).2 h (exposures d).2)))

  bob_signs : in_shared (sheet u) p secret_alice ≡ true → signed (sheet u) (sender_has (sheet u) p bob spend_b bob) spend_b ≡ true
  bob_signs h =
      signs_spend_b (per_day u) _
      (shared_has (sheet u) p bob spend_b bob secret_alice (both_secret (per_day u)).0 h)
      (held_has (sheet u) p bob spend_b bob secret_bob x.bob_own)

  -- ---- coin A to Bob
  abbrev AliceKnows : Type 0
  AliceKnows = (holds p alice secret_bob || in_shared (sheet u) p secret_bob) ≡ true

  bob_given : Paid (sheet u) p bob lock_a → swap_timed_out (sheet u) p ≡ false → AliceKnows
  unfolding swap_timed_out
  bob_given a n =
      let d = per_day u in
      let w = below d in
      let key = holds p alice secret_bob in
      let out = in_shared (sheet u) p secret_bob in
      either (pays_bob_lem d a.by (pays u one p g j bob lock_a a))
      (λ y. rw (j.sig_alice_given (j.bob_keyed a.by y (inl (stands u one p g j bob lock_a a)))))
      (λ y.
      either y
      (λ e.
      let h = above u one p g j spend_success success w.2 (rw e at a.confirmed) in
      or_right key out
      (shown_in_lem u p success secret_bob (omega arith) (x.exposed success secret_bob (omega arith) (contracts d).0 h (exposures d).0)))
      (λ e.
      let now : is_confirmed p spend_timeout ≡ true = confirmed_at p spend_timeout (rw e at a.confirmed) in
      known key out (rw now at n)))

  -- secret_bob is with Alice only where success is shared, and then coin B is locked
  secret_bob_out : AliceKnows → SecretBobOut p
  secret_bob_out h =
      either (or_parts (holds p alice secret_bob) (in_shared (sheet u) p secret_bob) h)
      inl
      (λ y. inr (secret_bob_shown u p j (shared_shown (sheet u) p secret_bob y)))

  alice_locked : AliceKnows → 0 < block_of p lock_b
  alice_locked h = x.lock_b_first (bob_out u p j (secret_bob_out h))

  alice_signs : AliceKnows → signed (sheet u) (sender_has (sheet u) p alice spend_b alice) spend_b ≡ true
  alice_signs h =
      signs_spend_b (per_day u) _
      (held_has (sheet u) p alice spend_b alice secret_alice x.alice_own)
      (either (or_parts (holds p alice secret_bob) (in_shared (sheet u) p secret_bob) h)
      (held_has (sheet u) p alice spend_b alice secret_bob)
      (shared_has (sheet u) p alice spend_b alice secret_bob (both_secret (per_day u)).1))

  -- ---- coin B
  secret_alice_out : in_shared (sheet u) p secret_alice ≡ true → SecretAliceOut p
  secret_alice_out h = secret_alice_shown u p j (shared_shown (sheet u) p secret_alice h)

  bob_takes : in_shared (sheet u) p secret_alice ≡ true → 0 < block_of p lock_b → Takes (sheet u) u p bob
  bob_takes h l =
      taken_by u c p l g bob (bob_sends u c p l g (bob_signs h))
      (λ e k o. either o (λ y. absurd (secrets_apart u one p g j (secret_alice_out h) (j.spend_b_alice (rw y at k)))) (λ y. y))

  alice_takes : AliceKnows → 0 < block_of p lock_b → Takes (sheet u) u p alice
  alice_takes h l =
      taken_by u c p l g alice (alice_sends u c p l g (alice_signs h))
      (λ e k o. either o (λ y. y) (λ y. absurd (secrets_apart u one p g j (j.spend_b_bob (rw y at k)) (secret_bob_out h))))

  -- ---- both coins
  one_each : is_payout (sheet u) (holder_in (sheet u) p) lock_a ≡ true → is_payout (sheet u) (holder_in (sheet u) p) lock_b ≡ true
      → eqb (holder_in (sheet u) p lock_a) (holder_in (sheet u) p lock_b) ≡ false
  one_each a b =
      let s = sheet u in
      let held = holder_in s p in
      fails_by (eqb (held lock_a) (held lock_b))
      (λ y.
      let e = eqb-true (held lock_a) (held lock_b) y in
      let to : is_payout_to s held (held lock_a) lock_b ≡ true = rw e (to_holder s held lock_b b) in
      clash {b = is_payout_to s held (held lock_a) lock_a && is_payout_to s held (held lock_a) lock_b}
      (rw (to_holder s held lock_a a, to))
      (not_both_paid u one p g j (held lock_a)))

  shared_late : Wellformed (sheet u) p → success_unshared p ≡ false → phase p ≡ 3
  unfolding success_unshared shared
  shared_late wf h =
      let small : shared p success contract < 16 = rw (needs (per_day u)).four at ((wf.slots success).shared contract) in
      in_three p (x.lock_b_first (some_bit (shared p success contract) small h))

  pub fair : Wellformed (sheet u) p → Fair (sheet u) u p
  fair wf =
      let s = sheet u in
      let held = holder_in s p in
      record {
        success_late = shared_late wf;
        both_paid = λ a b. (ended u one p g j (held lock_a) (held lock_b) (paid s p (held lock_a) lock_a (to_holder s held lock_a a)) (paid s p (held lock_b) lock_b (to_holder s held lock_b b)), one_each a b);
        alice_paid = λ h. let w = alice_refunded (paid s p alice lock_a h) in (w, bob_signs w, λ l. bob_takes w (has_block s u p g lock_b l));
        bob_paid = λ h n. let w = bob_given (paid s p bob lock_a h) n in let l = alice_locked w in (w, alice_signs w, confirmed_at p lock_b l, alice_takes w l);
      }
