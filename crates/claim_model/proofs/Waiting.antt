-- What waits in the pool or in the block remains.
-- Assumes nothing.
use Rattle.laws.proofs.Prelude.{ℕ, ◌<◌, ◌≡◌, Bool, true, false, List, eqb-false, arith, either, fails_by}
use Rattle.position.proofs.Rules.{count, Checked, per_day, meets_other, invalidated, in_pool, in_block, block_of, is_confirmed}
use Rattle.position.specs.declared.Position.{Position}
use Rattle.slots.proofs.Ancestors.{above_le, other_find}
use Rattle.slots.proofs.Conflicts.{conflict_self}
use Rattle.claim_ledger.proofs.Sound.{Waits, Sound}
use Rattle.claim_ledger.proofs.BumpedBlock.{waits_up}
use Rattle.claim_model.specs.Words.{remains}
use Rattle.claim_model.proofs.AnySheets.{pool_low, block_low, has_block}

module _ (s u : List ℕ) (ok : Checked s) (p : Position) (g : Sound s u p) where
  module _ (members : ℕ → Bool) (w : Waits s (per_day u) members (block_of p) p.mined) (t : ℕ) (l : t < count s) (h : members t ≡ true) where
    unconfirmed : is_confirmed p t ≡ false
    unconfirmed = fails_by (is_confirmed p t) (λ y. omega (arith, has_block s u p g t y, w.free t t l l h (conflict_self s t)))

    unmet : meets_other s (is_confirmed p) t ≡ false
    unmet =
        fails_by (meets_other s (is_confirmed p) t)
        (λ y.
        let f = other_find s (is_confirmed p) t y in
        let x = f.0 in
        let k = f.1 in
        let lx : x < count s = omega (arith, above_le f.2, l) in
        let now = has_block s u p g k f.5 in
        either (waits_up ok g.settled w f.2 l h)
        (λ z. omega (arith, w.free x k lx f.3 z f.4, now))
        (λ z. eqb-false k x f.6 (g.settled.alone x k lx f.3 z now f.4)))

    waits_remain : remains s p t ≡ true
    unfolding remains invalidated
    waits_remain = rw (unconfirmed, unmet)

  pub pool_remains : (t : ℕ) → in_pool p t ≡ true → remains s p t ≡ true
  pool_remains t h = waits_remain (in_pool p) g.pool t (pool_low s u p g t h) h

  pub block_remains : (t : ℕ) → in_block p t ≡ true → remains s p t ≡ true
  block_remains t h = waits_remain (in_block p) g.block t (block_low s u p g t h) h
