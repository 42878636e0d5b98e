-- What holds in every sound position of any checked sheet.
-- Assumes nothing.
use Rattle.laws.proofs.Prelude.{ℕ, ◌<◌, ◌≡◌, Bool, true, false, ◌||◌, List, ltb-true, arith, either, or_parts, fails_by}
use Rattle.position.proofs.Rules.{count, per_day, in_pool, in_block, block_of, is_confirmed, sent, placed, lock_height_in}
use Rattle.position.specs.declared.Position.{Position}
use Rattle.slots.proofs.Conflicts.{conflict_self, conflict_sym}
use Rattle.step_laws.specs.Wellformed.{Wellformed}
use Rattle.claim_ledger.proofs.Sound.{Waits, Sound}
use Rattle.claim_careful.proofs.Places.{pool_anywhere, block_anywhere, confirmed_anywhere, in_sheet}
use Rattle.claim_model.specs.Claim.{ConflictFree, Kept}

module _ (s u : List ℕ) (p : Position) (g : Sound s u p) where
  -- an entry is of one of the sheet's transactions
  pub pool_low : (t : ℕ) → in_pool p t ≡ true → t < count s
  pool_low t h = let w = pool_anywhere p t h in in_sheet s u p g t w.0 w.1

  pub block_low : (t : ℕ) → in_block p t ≡ true → t < count s
  block_low t h = let w = block_anywhere p t h in in_sheet s u p g t w.0 w.1

  pub has_block : (t : ℕ) → is_confirmed p t ≡ true → 0 < block_of p t
  unfolding is_confirmed
  has_block t h = ltb-true 0 (block_of p t) h

  pub chain_low : (t : ℕ) → is_confirmed p t ≡ true → t < count s
  chain_low t h = let w = confirmed_anywhere p t (has_block t h) in in_sheet s u p g t w.0 w.1

  -- those that wait, in the pool or in the block, beside the chain
  module _ (members : ℕ → Bool) (low : (t : ℕ) → members t ≡ true → t < count s) (w : Waits s (per_day u) members (block_of p) p.mined) where
    beside : ConflictFree s (λ t. members t || is_confirmed p t)
    beside t k a b c =
        either (or_parts (members t) (is_confirmed p t) a)
        (λ x.
        either (or_parts (members k) (is_confirmed p k) b)
        (λ y. w.alone t k (low t x) (low k y) x y c)
        (λ y. absurd (omega (arith, w.free t k (low t x) (chain_low k y) x c, has_block k y))))
        (λ x.
        either (or_parts (members k) (is_confirmed p k) b)
        (λ y. absurd (omega (arith, w.free k t (low k y) (chain_low t x) y (conflict_sym s k t c), has_block t x)))
        (λ y. g.settled.alone t k (chain_low t x) (chain_low k y) (has_block t x) (has_block k y) c))

    not_again : (t : ℕ) → is_confirmed p t ≡ true → members t ≡ false
    not_again t h =
        fails_by (members t) (λ y. omega (arith, w.free t t (low t y) (low t y) y (conflict_self s t), has_block t h))

  pub kept : Wellformed s p → Kept s u p
  unfolding sent placed lock_height_in
  kept wf =
      record {
        well_formed = wf;
        pool_to_lem = λ t h. g.pool_to_lem t (pool_low t h) h;
        block_to_lem = λ t h. g.block_to_lem t (block_low t h) h;
        confirmed_to_lem = λ t h. g.confirmed_to_lem t (chain_low t h) h;
        chain_and_block = beside (in_block p) block_low g.block;
        chain_and_pool = beside (in_pool p) pool_low g.pool;
        once = λ t h. (not_again (in_block p) block_low g.block t h, not_again (in_pool p) pool_low g.pool t h);
        pool_locks = λ t h. g.pool.locks t (pool_low t h) h;
        block_locks = λ t h. g.block.locks t (block_low t h) h;
      }
