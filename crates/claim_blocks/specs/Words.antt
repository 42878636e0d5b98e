-- Slip 8's own words on parents, rivals and locks, of each entry of a list.
-- Assumes nothing.
use Rattle.std.specs.Prelude.{ℕ, ◌-◌, ◌≤◌, ◌<◌, ◌≡◌, true, false, ◌⊎◌, List}
use Rattle.std.proofs.Math.Option.{some}
use Rattle.std.proofs.Math.ListN.{get_elem?}
use Rattle.sheet.specs.Field.{parent, lock_type, opening}
use Rattle.sheet.specs.LockHeight.{lock_height}
use Rattle.slots.specs.Conflict.{conflict}
use Rattle.ledger.specs.Entry.{Entry}

-- e stands in the list
abbrev pub Stands : List Entry → Entry → Type 0
Stands l e = (i : ℕ) × (get_elem? l i ≡ some e)

-- e stands before place j
pub record Before (l : List Entry) (j : ℕ) (e : Entry) : Type 0 where
  pub place : ℕ
  pub earlier : place < j
  pub stands : get_elem? l place ≡ some e

-- "Locks are measured as for a step: blocks before the entry's block count as mined.": the lock height over the parent's block p is at most their number
abbrev pub LockReached : List ℕ → ℕ → ℕ → Entry → Type 0
LockReached s per_day p f = lock_height s per_day (λ k. p) f.transaction ≤ f.block - 1

-- "A parent must be in an earlier block, or in the same block unless the lock is since the parent."
abbrev pub ParentBlock : List ℕ → Entry → Entry → Type 0
ParentBlock s e f = (e.block < f.block) ⊎ ((e.block ≡ f.block) × (lock_type s f.transaction ≡ 2 → ⊥))

-- an opening has no parent; a spend has one in the list
pub data Based (s : List ℕ) (per_day : ℕ) (l : List Entry) (f : Entry) : Type 0 where
  opens : opening s f.transaction ≡ true → LockReached s per_day 0 f → Based s per_day l f
  spends : (e : Entry) → Stands l e → opening s f.transaction ≡ false → e.transaction ≡ parent s f.transaction
      → ParentBlock s e f → LockReached s per_day e.block f → Based s per_day l f

-- what is asked of the entry f at place j
pub record Right (s : List ℕ) (per_day : ℕ) (l : List Entry) (j : ℕ) (f : Entry) : Type 0 where
  pub based : Based s per_day l f
  -- "Rivals: transactions of one parent, itself included": none stands before
  pub alone : (e : Entry) → Before l j e → conflict s f.transaction e.transaction ≡ false

-- and of every entry
abbrev pub AllRight : List ℕ → ℕ → List Entry → Type 0
AllRight s per_day l = (j : ℕ) (f : Entry) → get_elem? l j ≡ some f → Right s per_day l j f
