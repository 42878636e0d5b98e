-- An accepted step keeps what the invariant says of keys, of lock_A, of the refunds, and of where secrets are shared.
-- Assumes nothing.
use Rattle.laws.proofs.Prelude.{ℕ, ◌≤◌, ◌<◌, ◌≡◌, refl, true, List, ◌⊎◌, inl, inr, arith, either, bit}
use Rattle.position.proofs.Rules.{per_day, conduct, alice, bob, contract, destinations, block_of, shared, holds, sig_alice, sig_bob, secret_alice, secret_bob, lock_a}
use Rattle.position.specs.declared.Position.{Position}
use Rattle.position.proofs.Rules.{lock_b, success, refund1, revoke, refund2}
use Rattle.step_laws.proofs.Sending.{Sent}
use Rattle.step_laws.proofs.Provenance.{Moved}
use Rattle.claim_ledger.proofs.Sound.{Sound}
use Rattle.claim_careful.proofs.Table.{exposes_secret_alice, exposes_secret_bob}
use Rattle.claim_known.specs.Heights.{refund1_height, heights_rise}
use Rattle.claim_careful.proofs.Places.{Anywhere, block_stands, confirmed_anywhere, in_sheet, rightful, contract_to}
use Rattle.claim_careful.proofs.Fate.{Lasts, stays_confirmed}
use Rattle.claim_careful.proofs.Setting.{sheet}
use Rattle.claim_careful.proofs.Came.{Came, plain, sent_now, mined_now, came}
use Rattle.claim_careful.proofs.Got.{Got, alice_got, bob_got, got}
use Rattle.claim_careful.proofs.MaySend.{send_locked}
use Rattle.claim_careful.proofs.Invariant.{SuccessShared, Invariant}
use Rattle.claim_careful.proofs.Apart.{low, refund1_late, revoke_late, refund2_revoked}
use Rattle.claim_careful.proofs.Traced.{sends_contract, sent_success, sent_refund1, sent_refund2, sent_reached, sent_revoked, stays_shown, shared_early, given_early}

module _ (u : List ℕ) (c : conduct u ≡ 2) (one : 0 < per_day u) (top : per_day u ≤ 1000) (p : Position) (g : Sound (sheet u) u p)
    (j : Invariant u p) (q : Position) (m : Moved (sheet u) u p q) (ls : Lasts (sheet u) u p q) where
  -- an entry was there, or is sent now
  traced : (t : ℕ) → Anywhere q t → Anywhere p t ⊎ ((party : ℕ) × (e : ℕ) × Sent (sheet u) u p party t e)
  traced t w = either ((m.slots t).entries w.0 w.1) (λ y. inl (w.0, y)) (λ y. inr (y.0, w.0, y.1))

  -- keys
  pub next_sig_bob : holds q alice sig_bob ≡ true → ⊥
  next_sig_bob h = either (m.gifts alice sig_bob h) j.sig_bob_kept (λ y. from (got u c p alice sig_bob (omega arith) (omega arith) y))
    where
      from : Got u p alice sig_bob → ⊥
      from (alice_got x y k l) = omega arith
      from (bob_got x y k) = omega arith

  pub next_secret_alice : holds q bob secret_alice ≡ true → ⊥
  next_secret_alice h = either (m.gifts bob secret_alice h) j.secret_alice_kept (λ y. from (got u c p bob secret_alice (omega arith) (omega arith) y))
    where
      from : Got u p bob secret_alice → ⊥
      from (alice_got x y k l) = omega arith
      from (bob_got x y k) = omega arith

  stays_shared : SuccessShared p → SuccessShared q
  stays_shared w = (w.0, stays_shown u p q m success w.0 w.1)

  pub next_secret_bob : holds q alice secret_bob ≡ true → SuccessShared q
  next_secret_bob h = stays_shared (either (given_early u c one top p g j q m h) j.secret_bob_given (λ y. y.1))

  pub next_sig_alice : holds q bob sig_alice ≡ true → holds q alice secret_bob ≡ true
  next_sig_alice h =
      m.keys_kept alice secret_bob
      (either (m.gifts bob sig_alice h) j.sig_alice_given (λ y. from (got u c p bob sig_alice (omega arith) (omega arith) y)))
    where
      from : Got u p bob sig_alice → holds p alice secret_bob ≡ true
      from (alice_got x y k l) = absurd (omega arith)
      from (bob_got x y k) = k

  -- lock_A
  locked : 0 < block_of p lock_b → 0 < block_of p lock_a
  locked h = either (j.lock_a_first lock_b (confirmed_anywhere p lock_b h)) (λ e. absurd (omega arith)) (λ y. y)

  pub next_lock_a : (t : ℕ) → Anywhere q t → (t ≡ lock_a) ⊎ (0 < block_of q lock_a)
  next_lock_a t w =
      either
      (either (traced t w)
      (j.lock_a_first t)
      (λ y. either (send_locked u c p y.0 t y.1 y.2) inl (λ z. inr (either z locked (λ h. h)))))
      inl
      (λ h. inr (stays_confirmed ls lock_a (low u lock_a (omega arith)) h))

  -- success and the refunds
  pub next_success : Anywhere q success → SuccessShared q
  next_success w =
      stays_shared (either (traced success w) j.success_shared (λ y. sent_success u c one top p g j y.0 y.1 y.2))

  pub next_refund1 : Anywhere q refund1 → SuccessShared q → ⊥
  next_refund1 w x =
      let now = shared_early u c one top p g j q m x in
      either (traced refund1 w)
      (λ y. either now (j.refund1_alone y) (λ l. omega (arith, refund1_late u p g y)))
      (λ y.
      let s = y.2 in
      either now (sent_refund1 u c one top p g j y.0 y.1 s) (λ l. omega (arith, sent_reached u p y.0 y.1 s)))

  revoked_late : 0 < block_of p revoke → p.mined < refund1_height (per_day u) → ⊥
  revoked_late r l = omega (arith, revoke_late u p g (confirmed_anywhere p revoke r), heights_rise (per_day u) one)

  pub next_refund2 : Anywhere q refund2 → holds q alice secret_bob ≡ true → ⊥
  next_refund2 w h =
      let now = given_early u c one top p g j q m h in
      either (traced refund2 w)
      (λ y. either now (j.refund2_alone y) (λ l. revoked_late (refund2_revoked u p g y) l.0))
      (λ y. either now (sent_refund2 u c one top p g j y.0 y.1 y.2) (λ l. revoked_late (sent_revoked u p g y.0 y.1 y.2) l.0))

  -- where secrets are shared
  pub next_secret_alice_at : (t e : ℕ) → e < destinations → bit (shared q t e) secret_alice ≡ true
      → (e ≡ contract) × ((t ≡ refund1) ⊎ (t ≡ refund2))
  next_secret_alice_at t e l h = either ((m.slots t).shares e secret_alice l h) (j.secret_alice_at t e l) (λ y. from (came u c p q t e secret_alice y))
    where
      from : Came u p q t e secret_alice → (e ≡ contract) × ((t ≡ refund1) ⊎ (t ≡ refund2))
      from (plain x y k f) = absurd (x refl)
      from (sent_now party s k i n x) =
          let r = exposes_secret_alice (per_day u) t s.low x in
          (sends_contract (sheet u) party t e r.0 s.right, r.1)
      from (mined_now b to n x) =
          let w = block_stands p t e b to in
          let r = exposes_secret_alice (per_day u) t (in_sheet (sheet u) u p g t e w) x in
          (contract_to (sheet u) t e r.0 (rightful (sheet u) u p g t e w), r.1)

  pub next_secret_bob_at : (t e : ℕ) → e < destinations → bit (shared q t e) secret_bob ≡ true → (e ≡ contract) × (t ≡ success)
  next_secret_bob_at t e l h = either ((m.slots t).shares e secret_bob l h) (j.secret_bob_at t e l) (λ y. from (came u c p q t e secret_bob y))
    where
      from : Came u p q t e secret_bob → (e ≡ contract) × (t ≡ success)
      from (plain x y k f) = absurd (y refl)
      from (sent_now party s k i n x) =
          let r = exposes_secret_bob (per_day u) t s.low x in
          (sends_contract (sheet u) party t e r.0 s.right, r.1)
      from (mined_now b to n x) =
          let w = block_stands p t e b to in
          let r = exposes_secret_bob (per_day u) t (in_sheet (sheet u) u p g t e w) x in
          (contract_to (sheet u) t e r.0 (rightful (sheet u) u p g t e w), r.1)
