-- One accepted step under careful conduct: when success gets shared, when Alice gets secret_bob, and what a send of success or a refund implies.
-- Assumes nothing.
use Rattle.laws.proofs.Prelude.{ℕ, ◌≤◌, ◌<◌, ◌≡◌, refl, true, false, List, ◌⊎◌, inl, inr, eqb, eqb-true, leb-false, arith, either, clash, and_parts, zero_or_one, bit}
use Rattle.position.proofs.Rules.{required, per_day, conduct, alice, bob, contract, is_contract, is_payee, block_of, holds, lock_height_in, deadline_in, sig_alice}
use Rattle.position.specs.declared.Position.{Position}
use Rattle.position.proofs.Rules.{secret_alice, secret_bob, success, refund1, revoke, refund2, sends_to, late}
use Rattle.step_laws.proofs.Sending.{Sent}
use Rattle.step_laws.proofs.Provenance.{Moved}
use Rattle.claim_ledger.proofs.Sound.{Sound}
use Rattle.claim_careful.proofs.Table.{needs, contracts, revoke_rivals, sig_alice_plain}
use Rattle.claim_known.specs.Heights.{refund1_height, refund1_lock, refund2_waits, success_deadline}
use Rattle.claim_careful.proofs.Places.{block_anywhere}
use Rattle.claim_careful.proofs.Has.{Has, held, shown, secret, has_by}
use Rattle.claim_careful.proofs.Setting.{sheet, two_parties}
use Rattle.claim_careful.proofs.Came.{Came, plain, sent_now, mined_now, came}
use Rattle.claim_careful.proofs.Got.{Got, alice_got, bob_got, got}
use Rattle.claim_careful.proofs.MaySend.{alice_refund1, alice_refund2}
use Rattle.claim_careful.proofs.Invariant.{Shows, SuccessShared, SecretAliceOut, Invariant}
use Rattle.claim_careful.proofs.Apart.{low, refund1_stands, refund2_stands, refund2_revoked, secret_alice_shown, secret_bob_shown}

-- a send of a contract transaction goes to the contract, of a paying one to the sender
pub sends_contract : (s : List ℕ) (party t e : ℕ) → is_contract s t ≡ true → sends_to s party t e ≡ true → e ≡ contract
unfolding sends_to
sends_contract s party t e c h = eqb-true e contract (rw c at h)

pub sends_self : (s : List ℕ) (party t e : ℕ) → is_contract s t ≡ false → sends_to s party t e ≡ true → e ≡ party
unfolding sends_to
sends_self s party t e c h = eqb-true e party (and_parts (eqb e party) (is_payee s t party) (rw c at h)).0

-- what a sender has, by signature number
pub signs : (u : List ℕ) (p : Position) (party t e i : ℕ) → Sent (sheet u) u p party t e → i < 4
    → bit (required (sheet u) t) i ≡ true → Has (sheet u) p party t e i
signs u p party t e i w l n = has_by (sheet u) p party t e i (w.signs i (rw (needs (per_day u)).four l) n)

-- what is shared stays shared
pub stays_shown : (u : List ℕ) (p q : Position) → Moved (sheet u) u p q → (t i : ℕ) → Shows p t i → Shows q t i
stays_shown u p q m t i h = (m.slots t).kept contract i (omega arith) h

-- a send passes its lock: refund_1's height is reached, and refund_2's parent revoke is confirmed
pub sent_reached : (u : List ℕ) (p : Position) (party e : ℕ) → Sent (sheet u) u p party refund1 e → refund1_height (per_day u) ≤ p.mined
unfolding lock_height_in
sent_reached u p party e w = rw (refund1_lock (per_day u) (block_of p)) at w.lock

pub sent_revoked : (u : List ℕ) (p : Position) → Sound (sheet u) u p → (party e : ℕ) → Sent (sheet u) u p party refund2 e
    → 0 < block_of p revoke
unfolding lock_height_in
sent_revoked u p g party e w = refund2_waits (per_day u) p.mined (block_of p) (omega (arith, g.settled.limit)) w.lock

module _ (u : List ℕ) (c : conduct u ≡ 2) (one : 0 < per_day u) (top : per_day u ≤ 1000) (p : Position) (g : Sound (sheet u) u p)
    (j : Invariant u p) where
  -- who has sig_alice for success has it from a share of success
  sig_alice_of : Has (sheet u) p bob success contract sig_alice → SuccessShared p
  sig_alice_of (held h) = j.secret_bob_given (j.sig_alice_given h)
  sig_alice_of (shown h) = (sig_alice, h)
  sig_alice_of (secret n w) = clash n (sig_alice_plain (per_day u))

  secret_bob_of : Has (sheet u) p alice success contract secret_bob → SuccessShared p
  secret_bob_of (held h) = j.secret_bob_given h
  secret_bob_of (shown h) = (secret_bob, h)
  secret_bob_of (secret n w) = (secret_bob, secret_bob_shown u p j w)

  pub sent_success : (party e : ℕ) → Sent (sheet u) u p party success e → SuccessShared p
  sent_success party e w =
      let to = sends_contract (sheet u) party success e (contracts (per_day u)).0 w.right in
      let v = rw to at w in
      either (zero_or_one party (two_parties u party w.who))
      (λ y. secret_bob_of (signs u p alice success contract secret_bob (rw y at v) (omega arith) (needs (per_day u)).success_secret_bob))
      (λ y. sig_alice_of (signs u p bob success contract sig_alice (rw y at v) (omega arith) (needs (per_day u)).success_sig_alice))

  -- Bob has secret_alice only from a refund's exposure
  secret_alice_of : (t : ℕ) → Has (sheet u) p bob t contract secret_alice → SecretAliceOut p
  secret_alice_of t (held h) = absurd (j.secret_alice_kept h)
  secret_alice_of t (shown h) = secret_alice_shown u p j (t, contract, omega arith, h)
  secret_alice_of t (secret n w) = secret_alice_shown u p j w

  pub sent_refund1 : (party e : ℕ) → Sent (sheet u) u p party refund1 e → SuccessShared p → ⊥
  sent_refund1 party e w x =
      let v = rw (sends_contract (sheet u) party refund1 e (contracts (per_day u)).1 w.right) at w in
      either (zero_or_one party (two_parties u party w.who))
      (λ y. alice_refund1 u c p contract x.0 (rw y at v) x.1)
      (λ y.
      either (secret_alice_of refund1 (signs u p bob refund1 contract secret_alice (rw y at v) (omega arith) (needs (per_day u)).refund1_secret_alice))
      (λ h. j.refund1_alone (refund1_stands u p j h) x)
      (λ h.
      let r = refund2_revoked u p g (refund2_stands u p j h) in
      omega (arith, w.free revoke (low u revoke (omega arith)) (revoke_rivals (per_day u)).3)))

  pub sent_refund2 : (party e : ℕ) → Sent (sheet u) u p party refund2 e → holds p alice secret_bob ≡ true → ⊥
  sent_refund2 party e w x =
      let v = rw (sends_contract (sheet u) party refund2 e (contracts (per_day u)).2 w.right) at w in
      either (zero_or_one party (two_parties u party w.who))
      (λ y. alice_refund2 u c p contract (rw y at v) x)
      (λ y.
      either (secret_alice_of refund2 (signs u p bob refund2 contract secret_alice (rw y at v) (omega arith) (needs (per_day u)).refund2_secret_alice))
      (λ h. j.refund1_alone (refund1_stands u p j h) (j.secret_bob_given x))
      (λ h. j.refund2_alone (refund2_stands u p j h) x))

  early : late (sheet u) u p ≡ false → p.mined < refund1_height (per_day u)
  unfolding late deadline_in
  early h = rw (success_deadline (per_day u) (block_of p) one top) at (leb-false (deadline_in (sheet u) u p success) p.mined h)

  before_refund1 : p.mined < deadline_in (sheet u) u p success → p.mined < refund1_height (per_day u)
  unfolding deadline_in
  before_refund1 h = rw (success_deadline (per_day u) (block_of p) one top) at h

  module _ (q : Position) (m : Moved (sheet u) u p q) where
    -- success gets a shared signature only while it isn't late, or has one
    pub shared_early : SuccessShared q → SuccessShared p ⊎ (p.mined < refund1_height (per_day u))
    shared_early w = either ((m.slots success).shares contract w.0 (omega arith) w.1) (λ y. inl (w.0, y)) (λ y. from (came u c p q success contract w.0 y))
      where
        from : Came u p q success contract w.0 → SuccessShared p ⊎ (p.mined < refund1_height (per_day u))
        from (plain x y l f) = inr (early (f refl))
        from (sent_now party v l i n x) = inr (before_refund1 l)
        from (mined_now b to n x) = inl (j.success_shared (block_anywhere p success b))

    -- Alice gets secret_bob only while it isn't late, and success is shared
    pub given_early : holds q alice secret_bob ≡ true
        → (holds p alice secret_bob ≡ true) ⊎ ((p.mined < refund1_height (per_day u)) × SuccessShared p)
    given_early h = either (m.gifts alice secret_bob h) inl (λ y. from (got u c p alice secret_bob (omega arith) (omega arith) y))
      where
        from : Got u p alice secret_bob → (holds p alice secret_bob ≡ true) ⊎ ((p.mined < refund1_height (per_day u)) × SuccessShared p)
        from (alice_got x y k l) = inr (early l, sig_alice_of (has_by (sheet u) p bob success contract sig_alice k))
        from (bob_got x y k) = absurd (omega arith)
