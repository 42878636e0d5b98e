-- How a signature comes to be shared under careful conduct on the SASwap sheet.
-- Assumes nothing.
use Rattle.laws.proofs.Prelude.{ℕ, ◌≤◌, ◌<◌, ◌≡◌, sym, ◌∙◌, true, false, not, ◌&&◌, false≢true, List, eqb, leb, eqb-true, leb-true, not-true, arith, bit_and, split}
use Rattle.laws.proofs.Prelude.{and_parts, every, bit, without, bit_and_lem}
use Rattle.position.proofs.Rules.{required, saswap, saswap_at, per_day, conduct, alice, share_mask, exposed_mask, in_pool, in_block, block_to, block_of, sent, keys}
use Rattle.position.specs.declared.Position.{Position}
use Rattle.position.proofs.Rules.{deadline_in, secret_alice, secret_bob, success, refund1, timeout, no_transaction, first_shares, phase, late, alice_shares, may_share}
use Rattle.step_laws.proofs.Sending.{Sent}
use Rattle.step_laws.proofs.Provenance.{Shown, by_first_shares, by_share, by_send, by_block}
use Rattle.claim_careful.proofs.Setting.{sheet, allowed}

-- a share never has a secret in it
share_plain : (d held t i : ℕ) → bit (share_mask (saswap d) held t) i ≡ true → (i ≡ secret_alice → ⊥) × (i ≡ secret_bob → ⊥)
unfolding share_mask without saswap saswap_at bit
share_plain d held t i h =
    let w = (and_parts (bit (bit_and held (required (saswap d) t)) i) (bit 243 i) (sym (bit_and_lem (bit_and held (required (saswap d) t)) 243 i) ∙ h)).1 in
    ((λ e. false≢true (rw e at w)), (λ e. false≢true (rw e at w)))

-- first shares are of refund_1, revoke, refund_2 and timeout alone
pub first_range : (party : ℕ) → every (λ t. leb refund1 t && leb t timeout) (first_shares party) ≡ true
unfolding every first_shares
first_range party = split (eqb party alice) (λ y. rw y) (λ y. rw y)

-- how a signature came to be shared: as no secret, with success alone while it isn't late; by a send; or in a block
pub data Came (u : List ℕ) (p q : Position) (t e i : ℕ) : Type 0 where
  plain : (i ≡ secret_alice → ⊥) → (i ≡ secret_bob → ⊥) → t ≤ timeout → (t ≡ success → late (sheet u) u p ≡ false) → Came u p q t e i
  sent_now : (party : ℕ)
      → Sent (sheet u) u p party t e
      → p.mined < deadline_in (sheet u) u p t
      → in_pool q t ≡ true
      → q.mined ≡ p.mined
      → bit (exposed_mask (sheet u) t) i ≡ true
      → Came u p q t e i
  mined_now : in_block p t ≡ true → block_to p t ≡ e → 0 < block_of q t → bit (exposed_mask (sheet u) t) i ≡ true → Came u p q t e i

module _ (u : List ℕ) (c : conduct u ≡ 2) where
  shares_early : (p : Position) (party t : ℕ) → eqb t no_transaction ≡ false → may_share (sheet u) u p party t ≡ true
      → (t ≡ success) × (late (sheet u) u p ≡ false)
  unfolding may_share alice_shares
  shares_early p party t n h =
      let l = late (sheet u) u p in
      let x = not (sent p refund1) && not l in
      let a = (and_parts (eqb party alice) (eqb (phase p) 3 && (eqb t success && x)) (rw n at h)).1 in
      let b = and_parts (eqb t success) x (and_parts (eqb (phase p) 3) (eqb t success && x) a).1 in
      (eqb-true t success b.0, not-true l (and_parts (not (sent p refund1)) (not l) b.1).1)

  pub came : (p q : Position) (t e i : ℕ) → Shown (sheet u) u p q t e i → Came u p q t e i
  came p q t e i (by_first_shares party m to b) =
      let w = share_plain (per_day u) (keys p party) t i b in
      let r = and_parts (leb refund1 t) (leb t timeout) (m (λ k. leb refund1 k && leb k timeout) (first_range party)) in
      let low = leb-true refund1 t r.0 in
      plain w.0 w.1 (leb-true t timeout r.1) (λ y. absurd (omega arith))
  came p q t e i (by_share party n to h b) =
      let w = share_plain (per_day u) (keys p party) t i b in
      let r = shares_early p party t n (allowed u c (may_share (sheet u) u p party t) h) in
      plain w.0 w.1 (omega (arith, r.0)) (λ y. r.1)
  came p q t e i (by_send party w early there now b) = sent_now party w early there now b
  came p q t e i (by_block there to now b) = mined_now there to now b
