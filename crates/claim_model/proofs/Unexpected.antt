-- spend_refund_1_bob stands nowhere: it would need refund_1, and sig_alice in Bob's hands.
-- Assumes nothing.
use Rattle.laws.proofs.Prelude.{ℕ, ◌<◌, ◌≡◌, refl, true, false, List, inr, ltb-true, arith, either, or_parts, fails_by}
use Rattle.position.proofs.Rules.{count, parent, opening, per_day, refund1, spend_refund1_bob, in_pool, in_block, block_of, is_confirmed, sent, placed}
use Rattle.position.specs.declared.Position.{Position}
use Rattle.slots.proofs.Entered.{pooled, filled, settled}
use Rattle.position.proofs.Opened.{opened}
use Rattle.step_laws.proofs.Provenance.{Stands}
use Rattle.claim_ledger.proofs.Sound.{Sound}
use Rattle.claim_careful.proofs.Places.{Anywhere, pool_anywhere, block_anywhere, confirmed_anywhere}
use Rattle.claim_careful.proofs.Setting.{sheet}
use Rattle.claim_careful.proofs.Table.{Below}
use Rattle.claim_careful.proofs.Invariant.{Invariant}
use Rattle.claim_careful.proofs.NextPool.{both_held}

-- what stands somewhere has a parent that does
module _ (s u : List ℕ) (p : Position) (g : Sound s u p) where
  parent_at_lem : (t e : ℕ) → t < count s → opening s t ≡ false → Stands p t e → Anywhere p (parent s t)
  unfolding in_pool in_block block_of
  parent_at_lem t e l o (pooled h to) = either (g.pool.parents t l h o) (pool_anywhere p (parent s t)) (confirmed_anywhere p (parent s t))
  parent_at_lem t e l o (filled h to) = either (g.block.parents t l h o) (block_anywhere p (parent s t)) (confirmed_anywhere p (parent s t))
  parent_at_lem t e l o (settled h to) = confirmed_anywhere p (parent s t) (g.settled.parents t l h o).0

below_refund1 : (d : ℕ) → Below d spend_refund1_bob refund1
unfolding opened
below_refund1 d = record { low = omega arith; not_opening = refl; is = refl }

module _ (u : List ℕ) (p : Position) (g : Sound (sheet u) u p) (j : Invariant u p) where
  pub unexpected : Anywhere p spend_refund1_bob → ⊥
  unexpected w =
      let b = below_refund1 (per_day u) in
      let up = parent_at_lem (sheet u) u p g spend_refund1_bob w.0 b.low b.not_opening w.1 in
      let held = both_held u p g j spend_refund1_bob (inr (inr refl)) w in
      j.refund1_alone (rw b.is at up) (j.secret_bob_given held)

  pub nowhere : (sent p spend_refund1_bob ≡ false) × (placed p spend_refund1_bob ≡ false)
  unfolding sent placed is_confirmed
  nowhere =
      let t = spend_refund1_bob in
      let chain : is_confirmed p t ≡ true → ⊥ = λ h. unexpected (confirmed_anywhere p t (ltb-true 0 (block_of p t) h)) in (
        fails_by (sent p t) (λ h. either (or_parts (in_pool p t) (is_confirmed p t) h) (λ y. unexpected (pool_anywhere p t y)) chain),
        fails_by (placed p t) (λ h. either (or_parts (in_block p t) (is_confirmed p t) h) (λ y. unexpected (block_anywhere p t y)) chain),
      )
