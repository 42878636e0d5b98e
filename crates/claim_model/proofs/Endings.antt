-- The endings: who is paid from both coins, what remains then, and what a timeout leaves.
-- Assumes nothing.
use Rattle.laws.proofs.Prelude.{ℕ, ◌<◌, ◌≡◌, refl, sym, ◌∙◌, Bool, true, false, not, ◌&&◌, ◌||◌, and-false, List, [], ◌∷◌, ◌⊎◌, inl, eqb, ltb, eqb-true, ltb-true, eq-eqb}
use Rattle.laws.proofs.Prelude.{lt-ltb, not-true, arith, or-false, and-true, split, either, clash, and_parts, or_parts, or_right, fails_by, any_below, any_found, any_some}
use Rattle.laws.proofs.Prelude.{any_none, zero_or_one, every}
use Rattle.position.proofs.Rules.{count, Checked, saswap, per_day, alice, bob, is_contract, coin_of, secret_bob, lock_a, lock_b, success, timeout, spend_a, spend_b, spend_success}
use Rattle.position.proofs.Rules.{spend_refund1_bob, spend_refund1_alice, spend_revoke, spend_refund2, spend_timeout, in_pool, in_block, block_of, is_confirmed}
use Rattle.position.specs.declared.Position.{Position}
use Rattle.position.proofs.Rules.{confirmed_to, holds}
use Rattle.sheet.proofs.Theorems.{saswap_passes, sheet_checked}
use Rattle.position.proofs.Opened.{opened}
use Rattle.claim_ledger.proofs.Sound.{Sound}
use Rattle.claim_careful.specs.Claim.{in_shared}
use Rattle.claim_careful.proofs.Places.{Anywhere, pool_anywhere, block_anywhere, confirmed_anywhere, confirmed_stands, rightful, payee_to}
use Rattle.claim_careful.proofs.Setting.{sheet, two_parties}
use Rattle.claim_careful.proofs.Table.{fifteen, pays_alice, pays_bob_lem, pays_from_B, spend_b_pays, below}
use Rattle.claim_careful.proofs.Invariant.{SecretBobOut, SecretAliceOut, Invariant}
use Rattle.claim_careful.proofs.Payouts.{Paid, stands, pays, above, alice_once, bob_once, after_timeout}
use Rattle.claim_model.specs.Words.{remains, none_remains, has_custody, swap_successful, swap_aborted, swap_timed_out, contract_finished}
use Rattle.claim_model.proofs.AnySheets.{pool_low, block_low, has_block}
use Rattle.claim_model.proofs.Shared.{shown_in_lem}
use Rattle.claim_model.proofs.Unexpected.{unexpected}
use Rattle.claim_model.proofs.Remaining.{pays_from_a, none_remains_lem, remains_late, spend_b_remains}
use Rattle.claim_model.proofs.Waiting.{pool_remains, block_remains}

-- ---- custody
module _ (p : Position) (party : ℕ) where
  custody_here : (t : ℕ) (ids : List ℕ) → 0 < block_of p t → confirmed_to p t ≡ party → has_custody p (t ∷ ids) party ≡ true
  unfolding has_custody is_confirmed
  custody_here t ids h e = rw (lt-ltb 0 (block_of p t) h, eq-eqb (confirmed_to p t) party e)

  custody_next : (t : ℕ) (ids : List ℕ) → has_custody p ids party ≡ true → has_custody p (t ∷ ids) party ≡ true
  unfolding has_custody
  custody_next t ids h = or_right (is_confirmed p t && eqb (confirmed_to p t) party) (has_custody p ids party) h

  -- one of them, which passes what they all pass, is confirmed to the party
  custody_of : (test : ℕ → Bool) (ids : List ℕ) → every test ids ≡ true → has_custody p ids party ≡ true
      → (t : ℕ) × (test t ≡ true) × (is_confirmed p t ≡ true) × (confirmed_to p t ≡ party)
  unfolding has_custody every
  custody_of test [] e h = clash h refl
  custody_of test (t ∷ ids) e h =
      let a = and_parts (test t) (every test ids) e in
      either (or_parts (is_confirmed p t && eqb (confirmed_to p t) party) (has_custody p ids party) h)
      (λ y. let b = and_parts (is_confirmed p t) (eqb (confirmed_to p t) party) y in (t, a.0, b.0, eqb-true (confirmed_to p t) party b.1))
      (λ y. custody_of test ids a.1 y)

-- the transactions that the endings name pay from their coin
unfoldable payer : ℕ → ℕ → ℕ → Bool
payer d coin t = ltb t 15 && (eqb (coin_of (saswap d) t) coin && not (is_contract (saswap d) t))

payers : (d : ℕ)
    → (every (payer d lock_a) (spend_a ∷ spend_success ∷ spend_timeout ∷ spend_revoke ∷ []) ≡ true)
    × (every (payer d lock_a) (spend_a ∷ spend_refund1_alice ∷ spend_refund2 ∷ []) ≡ true)
    × (payer d lock_b spend_b ≡ true)
unfolding opened payer
payers d = (refl, refl, refl)

module _ (u : List ℕ) (one : 0 < per_day u) (p : Position) (g : Sound (sheet u) u p) (j : Invariant u p) where
  -- a confirmed transaction that pays pays somebody
  payee_of_lem : (coin t : ℕ) → payer (per_day u) coin t ≡ true → is_confirmed p t ≡ true → Paid (sheet u) p (confirmed_to p t) coin
  unfolding payer
  payee_of_lem coin t h c =
      let s = sheet u in
      let e = confirmed_to p t in
      let a = and_parts (ltb t 15) (eqb (coin_of s t) coin && not (is_contract s t)) h in
      let b = and_parts (eqb (coin_of s t) coin) (not (is_contract s t)) a.1 in
      let now = has_block s u p g t c in
      let r = payee_to s t e (not-true (is_contract s t) b.1) (rightful s u p g t e (confirmed_stands p t e now refl)) in
      record {
        who = r.0;
        by = t;
        low_by = rw (fifteen (per_day u)) (ltb-true t 15 a.0);
        of_coin = eqb-true (coin_of s t) coin b.0;
        confirmed = now;
        to = refl;
      }

  -- ---- one coin each
  -- of coin A to Bob, by a transaction that a success names; to Alice, by one that an abort names
  bob_custody : Paid (sheet u) p bob lock_a → has_custody p (spend_a ∷ spend_success ∷ spend_timeout ∷ spend_revoke ∷ []) bob ≡ true
  bob_custody a =
      let at : (t : ℕ) → a.by ≡ t → (ids : List ℕ) → has_custody p (t ∷ ids) bob ≡ true =
      λ t e ids. custody_here p bob t ids (rw e at a.confirmed) (rw e at a.to) in
      let next = custody_next p bob in
      either (pays_bob_lem (per_day u) a.by (pays u one p g j bob lock_a a))
      (λ y.
      either y
      (λ e. at spend_a e _)
      (λ z.
      either z
      (λ e. next spend_a _ (next spend_success _ (next spend_timeout _ (at spend_revoke e []))))
      (λ e. absurd (unexpected u p g j (confirmed_anywhere p spend_refund1_bob (rw e at a.confirmed))))))
      (λ y. either y (λ e. next spend_a _ (at spend_success e _)) (λ e. next spend_a _ (next spend_success _ (at spend_timeout e _))))

  alice_custody : Paid (sheet u) p alice lock_a → has_custody p (spend_a ∷ spend_refund1_alice ∷ spend_refund2 ∷ []) alice ≡ true
  alice_custody a =
      let at : (t : ℕ) → a.by ≡ t → (ids : List ℕ) → has_custody p (t ∷ ids) alice ≡ true =
      λ t e ids. custody_here p alice t ids (rw e at a.confirmed) (rw e at a.to) in
      let next = custody_next p alice in
      either (pays_alice (per_day u) a.by (pays u one p g j alice lock_a a))
      (λ y. absurd (j.alice_unpaid a.by y (inl (stands u one p g j alice lock_a a))))
      (λ y. either y (λ e. next spend_a _ (at spend_refund1_alice e _)) (λ e. next spend_a _ (next spend_refund1_alice _ (at spend_refund2 e _))))

  from_B : (party : ℕ) → Paid (sheet u) p party lock_b → has_custody p (spend_b ∷ []) party ≡ true
  from_B party b =
      let k = pays u one p g j party lock_b b in
      let e = pays_from_B (per_day u) b.by k.low k.of_coin k.pays in
      custody_here p party spend_b [] (rw e at b.confirmed) (rw e at b.to)

  -- both coins paid out: successful or aborted
  pub ended : (x y : ℕ) → Paid (sheet u) p x lock_a → Paid (sheet u) p y lock_b → (swap_successful p || swap_aborted p) ≡ true
  unfolding swap_successful swap_aborted
  ended x y a b =
      either (zero_or_one x (two_parties u x a.who))
      (λ e.
      either (zero_or_one y (two_parties u y b.who))
      (λ f. absurd (alice_once u one p g j (rw e at a) (rw f at b)))
      (λ f. or_right (swap_successful p) (swap_aborted p) (rw (alice_custody (rw e at a), from_B bob (rw f at b)))))
      (λ e.
      either (zero_or_one y (two_parties u y b.who))
      (λ f. rw (from_B alice (rw f at b), bob_custody (rw e at a)))
      (λ f. absurd (bob_once u one p g j (rw e at a) (rw f at b))))

  -- ---- what remains
  -- a confirmed payment from coin A
  found : (t : ℕ) → payer (per_day u) lock_a t ≡ true → is_confirmed p t ≡ true → any_below 15 (pays_from_a (sheet u) (is_confirmed p)) ≡ true
  unfolding payer pays_from_a
  found t h c =
      let s = sheet u in
      let a = and_parts (ltb t 15) (eqb (coin_of s t) lock_a && not (is_contract s t)) h in
      let b = and_parts (eqb (coin_of s t) lock_a) (not (is_contract s t)) a.1 in
      any_found 15 t (pays_from_a s (is_confirmed p)) (ltb-true t 15 a.0) (rw (b.0, b.1, c))

  spent_b : (party : ℕ) → has_custody p (spend_b ∷ []) party ≡ true → is_confirmed p spend_b ≡ true
  unfolding has_custody
  spent_b party h =
      (and_parts (is_confirmed p spend_b) (eqb (confirmed_to p spend_b) party)
      (either (or_parts (is_confirmed p spend_b && eqb (confirmed_to p spend_b) party) false h) (λ y. y) (λ y. clash y refl))).0

  over : (ids : List ℕ) (x y : ℕ) → every (payer (per_day u) lock_a) ids ≡ true → has_custody p ids x ≡ true → has_custody p (spend_b ∷ []) y ≡ true
      → (any_below 15 (pays_from_a (sheet u) (is_confirmed p)) && is_confirmed p spend_b) ≡ true
  over ids x y e h k =
      let w = custody_of p x (payer (per_day u) lock_a) ids e h in
      rw (found w.0 w.1 w.2, spent_b y k)

  of_payer : (t : ℕ) → t < 15 → pays_from_a (sheet u) (is_confirmed p) t ≡ true → (payer (per_day u) lock_a t ≡ true) × (is_confirmed p t ≡ true)
  unfolding payer pays_from_a
  of_payer t l h =
      let s = sheet u in
      let a = and_parts (eqb (coin_of s t) lock_a) (not (is_contract s t) && is_confirmed p t) h in
      let b = and_parts (not (is_contract s t)) (is_confirmed p t) a.1 in
      (rw (lt-ltb t 15 l, a.0, b.0), b.1)

  -- nothing remains exactly if the swap is successful or aborted
  pub none_left : none_remains (sheet u) p ≡ (swap_successful p || swap_aborted p)
  unfolding swap_successful swap_aborted
  none_left =
      let s = sheet u in
      let c = is_confirmed p in
      let a = any_below 15 (pays_from_a s c) in
      let l = payers (per_day u) in
      none_remains_lem u p g
      ∙ split (a && c spend_b)
      (λ h.
      let w = and_parts a (c spend_b) h in
      let f = any_some 15 (pays_from_a s c) w.0 in
      let k = of_payer f.0 f.1 f.2 in
      h ∙ sym (ended _ _ (payee_of_lem lock_a f.0 k.0 k.1) (payee_of_lem lock_b spend_b l.2 w.1)))
      (λ h.
      h
      ∙ sym
      (fails_by (swap_successful p || swap_aborted p)
      (λ y.
      either (or_parts (swap_successful p) (swap_aborted p) y)
      (λ z. let w = and_parts _ _ z in clash (over _ bob alice l.0 w.1 w.0) h)
      (λ z. let w = and_parts _ _ z in clash (over _ alice bob l.1 w.0 w.1) h))))

  -- ---- a timeout
  module _ (h : swap_timed_out (sheet u) p ≡ true) where
    timed : (is_confirmed p spend_timeout ≡ true) × (holds p alice secret_bob ≡ false) × (in_shared (sheet u) p secret_bob ≡ false)
    unfolding swap_timed_out
    timed =
        let x = holds p alice secret_bob in
        let y = in_shared (sheet u) p secret_bob in
        let a = and_parts (is_confirmed p spend_timeout) (not x && not y) h in
        let b = and_parts (not x) (not y) a.1 in
        (a.0, not-true x b.0, not-true y b.1)

    bob_kept : SecretBobOut p → ⊥
    bob_kept w = either w (λ y. clash y timed.1) (λ y. clash (shown_in_lem u p success secret_bob (omega arith) y) timed.2)

    alice_kept : SecretAliceOut p → ⊥
    alice_kept = after_timeout u one p g j (above u one p g j spend_timeout timeout (below (per_day u)).3 (has_block (sheet u) u p g spend_timeout timed.0))

    -- spend_B stands nowhere: neither party has both secrets
    spend_b_nowhere : Anywhere p spend_b → ⊥
    spend_b_nowhere w =
        let e = w.0 in
        let r = payee_to (sheet u) spend_b e (spend_b_pays (per_day u)) (rightful (sheet u) u p g spend_b e w.1) in
        either (zero_or_one e (two_parties u e r.0))
        (λ y. bob_kept (j.spend_b_alice (rw y at w.1)))
        (λ y. alice_kept (j.spend_b_bob (rw y at w.1)))

    pub late_remains : (t : ℕ) → t < count (sheet u) → remains (sheet u) p t ≡ true → (t ≡ lock_b) ⊎ (t ≡ spend_b)
    late_remains t l = remains_late u p g timed.0 t (rw (fifteen (per_day u)) at l)

    pub spend_b_left : remains (sheet u) p spend_b ≡ true
    spend_b_left =
        spend_b_remains u p g
        (fails_by (is_confirmed p spend_b) (λ y. spend_b_nowhere (confirmed_anywhere p spend_b (has_block (sheet u) u p g spend_b y))))

    ok : Checked (sheet u)
    ok = sheet_checked (sheet u) (saswap_passes (per_day u))

    pub pool_left : (t : ℕ) → in_pool p t ≡ true → t ≡ lock_b
    pool_left t y =
        either (late_remains t (pool_low (sheet u) u p g t y) (pool_remains (sheet u) u ok p g t y))
        (λ e. e)
        (λ e. absurd (spend_b_nowhere (pool_anywhere p spend_b (rw e at y))))

    pub block_left : (t : ℕ) → in_block p t ≡ true → t ≡ lock_b
    block_left t y =
        either (late_remains t (block_low (sheet u) u p g t y) (block_remains (sheet u) u ok p g t y))
        (λ e. e)
        (λ e. absurd (spend_b_nowhere (block_anywhere p spend_b (rw e at y))))

    some_left : none_remains (sheet u) p ≡ false
    unfolding none_remains
    some_left = rw (any_found (count (sheet u)) spend_b (remains (sheet u) p) (rw (fifteen (per_day u)) (omega arith)) spend_b_left)

  -- 001's equation
  pub finished : none_remains (sheet u) p ≡ (contract_finished (sheet u) p && not (swap_timed_out (sheet u) p))
  unfolding contract_finished
  finished =
      split (swap_timed_out (sheet u) p)
      (λ h. some_left h ∙ sym (rw h (and-false (swap_successful p || (swap_aborted p || true)))))
      (λ h. none_left ∙ sym (rw (h, or-false (swap_aborted p), and-true (swap_successful p || swap_aborted p))))

  -- nothing remains: pool and block are empty
  module _ (h : none_remains (sheet u) p ≡ true) where
    none : (t : ℕ) → t < count (sheet u) → remains (sheet u) p t ≡ false
    unfolding none_remains
    none = any_none (count (sheet u)) (remains (sheet u) p) (not-true (any_below (count (sheet u)) (remains (sheet u) p)) h)

    pub pool_empty : (t : ℕ) → in_pool p t ≡ false
    pool_empty t =
        fails_by (in_pool p t)
        (λ y. clash (pool_remains (sheet u) u (sheet_checked (sheet u) (saswap_passes (per_day u))) p g t y) (none t (pool_low (sheet u) u p g t y)))

    pub block_empty : (t : ℕ) → in_block p t ≡ false
    block_empty t =
        fails_by (in_block p t)
        (λ y. clash (block_remains (sheet u) u (sheet_checked (sheet u) (saswap_passes (per_day u))) p g t y) (none t (block_low (sheet u) u p g t y)))
