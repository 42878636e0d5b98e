-- An entry in pool or block or confirmed, in a sound position: its transaction is one of the sheet's, its destination right, its lock reached.
-- Assumes nothing.
use Rattle.laws.proofs.Prelude.{ℕ, ◌≤◌, ◌<◌, ◌≡◌, refl, true, false, List, ltb, eqb-true, ltb-true, ltb-false, lt-ltb, arith, split, clash, and_parts}
use Rattle.position.proofs.Rules.{count, lock_height, per_day, contract, is_contract, is_party, is_payee, empty_slot, entry_to, slot, in_pool, pool_to, in_block, block_to}
use Rattle.position.specs.declared.Position.{Position}
use Rattle.position.proofs.Rules.{block_of, is_confirmed, confirmed_to, shares_to}
use Rattle.slots.proofs.Entered.{Entered, pooled, filled, settled}
use Rattle.step_laws.proofs.AfterBlocks.{none_stands}
use Rattle.step_laws.proofs.Provenance.{Stands}
use Rattle.claim_ledger.proofs.Sound.{Sound}

-- "anywhere": in pool or block, or confirmed, for some destination
abbrev pub Anywhere : Position → ℕ → Type 0
Anywhere p t = (e : ℕ) × Stands p t e

pub pool_anywhere : (p : Position) (t : ℕ) → in_pool p t ≡ true → Anywhere p t
unfolding in_pool
pool_anywhere p t h = (entry_to (slot p t).pool, pooled h refl)

pub block_stands : (p : Position) (t e : ℕ) → in_block p t ≡ true → block_to p t ≡ e → Stands p t e
unfolding in_block block_to
block_stands p t e h to = filled h to

pub block_anywhere : (p : Position) (t : ℕ) → in_block p t ≡ true → Anywhere p t
block_anywhere p t h = (block_to p t, block_stands p t (block_to p t) h refl)

pub confirmed_stands : (p : Position) (t e : ℕ) → 0 < block_of p t → confirmed_to p t ≡ e → Stands p t e
unfolding block_of confirmed_to
confirmed_stands p t e h to = settled h to

pub confirmed_anywhere : (p : Position) (t : ℕ) → 0 < block_of p t → Anywhere p t
confirmed_anywhere p t h = (confirmed_to p t, confirmed_stands p t (confirmed_to p t) h refl)

pub nothing_entered : (e : ℕ) → Entered empty_slot e → ⊥
nothing_entered e (pooled h to) = clash h none_stands
nothing_entered e (filled h to) = clash h none_stands
nothing_entered e (settled h to) = omega arith

module _ (s u : List ℕ) (p : Position) (g : Sound s u p) where
  pub in_sheet : (t e : ℕ) → Stands p t e → t < count s
  in_sheet t e h =
      split (ltb t (count s))
      (λ y. ltb-true t (count s) y)
      (λ y. absurd (nothing_entered e (rw (g.beyond t (ltb-false t (count s) y)) at h)))

  right_at : (t e : ℕ) → t < count s → Stands p t e → shares_to s t e ≡ true
  unfolding in_pool pool_to in_block block_to is_confirmed block_of confirmed_to
  right_at t e l (pooled h to) = rw to at (g.pool_to_lem t l h)
  right_at t e l (filled h to) = rw to at (g.block_to_lem t l h)
  right_at t e l (settled h to) = rw to at (g.confirmed_to_lem t l (lt-ltb 0 (block_of p t) h))

  pub rightful : (t e : ℕ) → Stands p t e → shares_to s t e ≡ true
  rightful t e h = right_at t e (in_sheet t e h) h

  lock_at_lem : (t e : ℕ) → t < count s → Stands p t e → lock_height s (per_day u) (block_of p) t ≤ p.mined
  unfolding in_pool in_block block_of
  lock_at_lem t e l (pooled h to) = g.pool.locks t l h
  lock_at_lem t e l (filled h to) = g.block.locks t l h
  lock_at_lem t e l (settled h to) = omega (arith, g.settled.locks t l h, g.settled.numbered t l)

  pub lock_reached : (t : ℕ) → Anywhere p t → lock_height s (per_day u) (block_of p) t ≤ p.mined
  lock_reached t w = lock_at_lem t w.0 (in_sheet t w.0 w.1) w.1

-- "Contract transactions go to 2"; a paying one goes to one of its payees
pub contract_to : (s : List ℕ) (t e : ℕ) → is_contract s t ≡ true → shares_to s t e ≡ true → e ≡ contract
unfolding shares_to
contract_to s t e c h = eqb-true e contract (rw c at h)

pub payee_to : (s : List ℕ) (t e : ℕ) → is_contract s t ≡ false → shares_to s t e ≡ true → (is_party s e ≡ true) × (is_payee s t e ≡ true)
unfolding shares_to
payee_to s t e c h = and_parts (is_party s e) (is_payee s t e) (rw c at h)
