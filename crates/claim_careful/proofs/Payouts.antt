-- No party is paid from both coins.
-- Assumes nothing.
use Rattle.laws.proofs.Prelude.{ℕ, zero, suc, ◌<◌, ◌≡◌, refl, ◌∙◌, Bool, true, not, ◌&&◌, List, inl, eqb, eqb-true, ltb-true, arith, split, either, and_parts, fails_by}
use Rattle.laws.proofs.Prelude.{zero_or_one}
use Rattle.position.proofs.Rules.{count, opening, per_day, alice, bob, is_party, is_contract, coin_of, nobody, block_of, is_confirmed, confirmed_to, lock_a, lock_b}
use Rattle.position.specs.declared.Position.{Position}
use Rattle.position.proofs.Rules.{success, refund1, revoke, refund2, timeout, spend_b, spend_success, spend_refund1_alice, spend_refund2, spend_timeout, payee, is_payout}
use Rattle.position.proofs.Rules.{is_payout_to, holder_in}
use Rattle.sheet.proofs.Parties.{party_small}
use Rattle.readings.specs.Holder.{confirmed_child, ends_coin, payee_below, holder}
use Rattle.step_laws.proofs.Provenance.{Stands}
use Rattle.claim_ledger.proofs.Sound.{Sound}
use Rattle.claim_careful.specs.Claim.{PaidOnce}
use Rattle.claim_careful.proofs.Table.{Pays, pays_alice, pays_bob_lem, pays_from_B, Below, below, revoke_rivals, timeout_rival}
use Rattle.claim_known.specs.Heights.{timeout_lock}
use Rattle.claim_careful.proofs.Places.{confirmed_stands, confirmed_anywhere, rightful, contract_to, payee_to}
use Rattle.claim_careful.proofs.Setting.{sheet, two_parties}
use Rattle.claim_careful.proofs.Invariant.{SecretAliceOut, Invariant}
use Rattle.claim_careful.proofs.Apart.{low, one_confirmed, revoke_late, refund2_revoked, refund1_stands, refund2_stands, bob_out, refund2_apart, secrets_apart}

-- a holder that is somebody is the payee of a transaction that passes
payee_found : (n : ℕ) (passes : ℕ → Bool) (payees : ℕ → ℕ) → (payee_below n passes payees ≡ nobody → ⊥)
    → (t : ℕ) × (t < n) × (passes t ≡ true) × (payees t ≡ payee_below n passes payees)
unfolding payee_below
payee_found zero passes payees h = absurd (h refl)
payee_found (suc n) passes payees h =
    split (passes n)
    (λ y. (n, omega arith, y, rw y))
    (λ y.
    let w = payee_found n passes payees (λ e. h (rw y e)) in
    (w.0, omega (arith, w.1), w.2, rw y w.3))

-- who is paid from a coin is the destination of a confirmed transaction of that coin
pub record Paid (s : List ℕ) (p : Position) (party coin : ℕ) : Type 0 where
  pub who : is_party s party ≡ true
  pub by : ℕ
  pub low_by : by < count s
  pub of_coin : coin_of s by ≡ coin
  pub confirmed : 0 < block_of p by
  pub to : confirmed_to p by ≡ party

pub paid : (s : List ℕ) (p : Position) (party coin : ℕ) → is_payout_to s (holder_in s p) party coin ≡ true → Paid s p party coin
unfolding is_payout_to is_payout holder_in holder ends_coin payee is_confirmed
paid s p party coin h =
    let held = holder_in s p coin in
    let a = and_parts (opening s coin && is_party s held) (eqb held party) h in
    let is : held ≡ party = eqb-true held party a.1 in
    let l : is_party s held ≡ true = (and_parts (opening s coin) (is_party s held) a.0).1 in
    let w = payee_found (count s) (ends_coin s (is_confirmed p) coin) (payee p) (λ e. let q = party_small s held l in omega (arith, e, q)) in
    let t = w.0 in
    let b = and_parts (eqb (coin_of s t) coin) (is_confirmed p t && not (confirmed_child s (is_confirmed p) t)) w.2 in
    let k = (and_parts (is_confirmed p t) (not (confirmed_child s (is_confirmed p) t)) b.1).0 in
    record {
      who = rw is at l;
      by = t;
      low_by = w.1;
      of_coin = eqb-true (coin_of s t) coin b.0;
      confirmed = ltb-true 0 (block_of p t) k;
      to = (rw k at w.3) ∙ is;
    }

module _ (u : List ℕ) (one : 0 < per_day u) (p : Position) (g : Sound (sheet u) u p) (j : Invariant u p) where
  pub stands : (party coin : ℕ) (w : Paid (sheet u) p party coin) → Stands p w.by party
  stands party coin w = confirmed_stands p w.by party w.confirmed w.to

  -- a party is paid by no contract transaction, and as a payee
  pub pays : (party coin : ℕ) (w : Paid (sheet u) p party coin) → Pays (per_day u) coin party w.by
  pays party coin w =
      let right = rightful (sheet u) u p g w.by party (stands party coin w) in
      let n = fails_by (is_contract (sheet u) w.by) (λ y. omega (arith, contract_to (sheet u) w.by party y right, two_parties u party w.who)) in
      record { low = w.low_by; of_coin = w.of_coin; pays = n; payee = (payee_to (sheet u) w.by party n right).1 }

  from_B : (party : ℕ) → Paid (sheet u) p party lock_b → Stands p spend_b party
  from_B party w =
      let k = pays party lock_b w in
      rw (pays_from_B (per_day u) w.by k.low k.of_coin k.pays) at (stands party lock_b w)

  -- what stands above a confirmed transaction is confirmed
  pub above : (t k : ℕ) → Below (per_day u) t k → 0 < block_of p t → 0 < block_of p k
  above t k b h = rw b.is at (g.settled.parents t b.low h b.not_opening).0

  pub alice_once : Paid (sheet u) p alice lock_a → Paid (sheet u) p alice lock_b → ⊥
  alice_once a b =
      let out = j.spend_b_alice (from_B alice b) in
      let w = below (per_day u) in
      either (pays_alice (per_day u) a.by (pays alice lock_a a))
      (λ y. j.alice_unpaid a.by y (inl (stands alice lock_a a)))
      (λ y.
      either y
      (λ e.
      let h = above spend_refund1_alice refund1 w.0 (rw e at a.confirmed) in
      j.refund1_alone (confirmed_anywhere p refund1 h) (bob_out u p j out))
      (λ e.
      let h = above spend_refund2 refund2 w.1 (rw e at a.confirmed) in
      refund2_apart u one p g j (confirmed_anywhere p refund2 h) out))

  -- spend_success confirmed: secret_alice is not out
  after_success : 0 < block_of p success → SecretAliceOut p → ⊥
  after_success h out =
      either out
      (λ x. j.refund1_alone (refund1_stands u p j x) (j.success_shared (confirmed_anywhere p success h)))
      (λ x.
      let r = refund2_revoked u p g (refund2_stands u p j x) in
      one_confirmed u p g revoke success (omega arith) (omega arith) (revoke_rivals (per_day u)).0 (λ e. omega arith) r h)

  -- nor with timeout confirmed
  pub after_timeout : 0 < block_of p timeout → SecretAliceOut p → ⊥
  after_timeout h out =
      let r = above timeout revoke (below (per_day u)).4 h in
      either out
      (λ x.
      either (j.refund1_due x)
      (one_confirmed u p g revoke refund1 (omega arith) (omega arith) (revoke_rivals (per_day u)).2 (λ e. omega arith) r)
      (λ w. omega (arith, revoke_late u p g (confirmed_anywhere p revoke r), w.1)))
      (λ x.
      either (j.refund2_due x)
      (λ k. one_confirmed u p g refund2 timeout (omega arith) (omega arith) (timeout_rival (per_day u)) (λ e. omega arith) k h)
      (λ w.
      let l = low u timeout (omega arith) in
      let lock = rw (timeout_lock (per_day u) (block_of p) r) at (g.settled.locks timeout l h) in
      omega (arith, w.1, g.settled.numbered timeout l)))

  pub bob_once : Paid (sheet u) p bob lock_a → Paid (sheet u) p bob lock_b → ⊥
  bob_once a b =
      let out = j.spend_b_bob (from_B bob b) in
      let w = below (per_day u) in
      either (pays_bob_lem (per_day u) a.by (pays bob lock_a a))
      (λ y. secrets_apart u one p g j out (inl (j.sig_alice_given (j.bob_keyed a.by y (inl (stands bob lock_a a))))))
      (λ y.
      either y
      (λ e. after_success (above spend_success success w.2 (rw e at a.confirmed)) out)
      (λ e. after_timeout (above spend_timeout timeout w.3 (rw e at a.confirmed)) out))

  pub not_both_paid : PaidOnce (sheet u) (holder_in (sheet u) p)
  not_both_paid party =
      let a = is_payout_to (sheet u) (holder_in (sheet u) p) party lock_a in
      let b = is_payout_to (sheet u) (holder_in (sheet u) p) party lock_b in
      fails_by (a && b)
      (λ h.
      let w = and_parts a b h in
      let x = paid (sheet u) p party lock_a w.0 in
      let y = paid (sheet u) p party lock_b w.1 in
      either (zero_or_one party (two_parties u party x.who))
      (λ e. alice_once (rw e at x) (rw e at y))
      (λ e. bob_once (rw e at x) (rw e at y)))
