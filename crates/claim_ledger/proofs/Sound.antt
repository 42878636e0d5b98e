-- What holds in every position that the empty journal's leads to, over functions: the block of each transaction (0 where it is
-- unconfirmed), and the sets of those that wait in the pool and in the block being filled.
-- Assumes nothing.
use Rattle.laws.proofs.Prelude.{ℕ, ◌≤◌, ◌<◌, ◌≡◌, Bool, true, false, List, ◌⊎◌, length}
use Rattle.position.proofs.Rules.{count, parent, opening, lock_height, per_day, conflict, empty_slot, slot_count, slot, in_pool, pool_to, in_block, block_to, block_of}
use Rattle.position.specs.declared.Position.{Position}
use Rattle.position.proofs.Rules.{is_confirmed, confirmed_to, shares_to, block_limit}

-- the confirmed ones
pub record Settled (s : List ℕ) (per_day : ℕ) (block : ℕ → ℕ) (mined : ℕ) : Type 0 where
  pub limit : mined ≤ block_limit
  pub numbered : (t : ℕ) → t < count s → block t ≤ mined
  pub parents : (t : ℕ) → t < count s → 0 < block t → opening s t ≡ false → (0 < block (parent s t)) × (block (parent s t) ≤ block t)
  pub locks : (t : ℕ) → t < count s → 0 < block t → lock_height s per_day block t < block t
  pub alone : (t k : ℕ) → t < count s → k < count s → 0 < block t → 0 < block k → conflict s k t ≡ true → k ≡ t

-- those that wait, in the pool or in the block being filled
pub record Waits (s : List ℕ) (per_day : ℕ) (members : ℕ → Bool) (block : ℕ → ℕ) (mined : ℕ) : Type 0 where
  pub free : (t k : ℕ) → t < count s → k < count s → members t ≡ true → conflict s k t ≡ true → block k ≡ 0
  pub alone : (t k : ℕ) → t < count s → k < count s → members t ≡ true → members k ≡ true → conflict s k t ≡ true → k ≡ t
  pub parents : (t : ℕ) → t < count s → members t ≡ true → opening s t ≡ false → (members (parent s t) ≡ true) ⊎ (0 < block (parent s t))
  pub locks : (t : ℕ) → t < count s → members t ≡ true → lock_height s per_day block t ≤ mined

pub record Sound (s u : List ℕ) (p : Position) : Type 0 where
  pub sized : length p.slots ≡ slot_count
  pub beyond : (t : ℕ) → count s ≤ t → slot p t ≡ empty_slot
  pub settled : Settled s (per_day u) (block_of p) p.mined
  pub pool : Waits s (per_day u) (in_pool p) (block_of p) p.mined
  pub block : Waits s (per_day u) (in_block p) (block_of p) p.mined
  pub pool_to_lem : (t : ℕ) → t < count s → in_pool p t ≡ true → shares_to s t (pool_to p t) ≡ true
  pub block_to_lem : (t : ℕ) → t < count s → in_block p t ≡ true → shares_to s t (block_to p t) ≡ true
  pub confirmed_to_lem : (t : ℕ) → t < count s → is_confirmed p t ≡ true → shares_to s t (confirmed_to p t) ≡ true
