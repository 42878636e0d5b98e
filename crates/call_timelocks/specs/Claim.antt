-- "Prove that Bitcoin's height rule admits a block exactly when the model's lock does." To be believed beside the sheet's lock heights and
-- the call's answer: Bitcoin.antt.
-- Assumes nothing.
use Rattle.std.specs.Prelude.{ℕ, ◌+◌, ◌-◌, ◌*◌, ◌≤◌, ◌<◌, ◌≡◌, true, false, ◌⊎◌, List, leb}
use Rattle.laws.specs.Little.{number_at}
use Rattle.sheet.specs.Refusal.{accepted, timelock_relative, timelock_absolute}
use Rattle.sheet.specs.Field.{count, parent, opening}
use Rattle.sheet.specs.Setup.{per_day}
use Rattle.sheet.specs.LockHeight.{lock_height, never}
use Rattle.call_timelocks.specs.Bitcoin.{Transaction, Block, admitted}
use Rattle.call_timelocks.specs.Fields.{n_lock_time, n_sequence}
use Rattle.call_timelocks.specs.Timelocks.{field_refusal, timelocks_answer}

-- "The transaction version must be 2, which the boxes set."
abbrev pub boxed : ℕ → ℕ → Transaction
boxed lock_time sequence = record { version = 2; lock_time = lock_time; sequence = sequence }

-- transaction t with its two numbers
abbrev pub fields_of : List ℕ → ℕ → ℕ → ℕ → Transaction
fields_of s per_day base t = boxed (n_lock_time s per_day base t) (n_sequence s per_day t)

-- "a base height (.. the real chain's height when the journal is empty)": the model's block b at any time
abbrev pub real : ℕ → ℕ → ℕ → Block
real base b time = record { height = base + b; time = time }

-- what is claimed of transaction t with these fields, over a function that gives each transaction's block
pub record SameLock (s : List ℕ) (per_day base t : ℕ) (x : Transaction) : Type 0 where
  -- With its parent in block p, Bitcoin admits it to block b, whatever the times are, exactly if the lock height is at most b - 1, the
  -- blocks mined before b.
  pub admits : (block : ℕ → ℕ) (p b from at : ℕ) → 1 ≤ p → p ≤ b → (opening s t ≡ false → block (parent s t) ≡ p)
      → admitted x (real base p from) (real base b at) ≡ leb (lock_height s per_day block t) (b - 1)
  -- The same with its parent in the block being filled, b itself, so unconfirmed as yet.
  pub admits_beside : (block : ℕ → ℕ) (b from at : ℕ) → 1 ≤ b → b ≤ never → (opening s t ≡ false → block (parent s t) ≡ 0)
      → admitted x (real base b from) (real base b at) ≡ leb (lock_height s per_day block t) (b - 1)
  -- The same of an opening, whose input is no transaction of the sheet and may stand in any block.
  pub admits_opening : opening s t ≡ true → (block : ℕ → ℕ) (b at : ℕ) (from : Block) → 1 ≤ b
      → admitted x from (real base b at) ≡ leb (lock_height s per_day block t) (b - 1)

-- for every sheet, setup and base that get neither 26 nor 27, and every transaction
abbrev pub FieldsExact : Type 0
FieldsExact =
    (s u : List ℕ) (base t : ℕ)
    → field_refusal s u base ≡ accepted
    → t < count s
    → SameLock s (per_day u) base t (fields_of s (per_day u) base t)

-- the two numbers that stand for transaction t in a buffer
abbrev pub read : List ℕ → ℕ → Transaction
read buffer t = boxed (number_at 4 buffer (8 * t)) (number_at 4 buffer (8 * t + 4))

-- the same of what the call leaves in its buffer where it answers 0
abbrev pub WrittenExact : Type 0
WrittenExact =
    (s u : List ℕ) (base : ℕ) (out : List ℕ) (t : ℕ)
    → (timelocks_answer s u base out).refusal ≡ accepted
    → t < count s
    → SameLock s (per_day u) base t (read (timelocks_answer s u base out).buffer t)

-- 26 and 27 are needed: whatever gets one of them has a transaction of which the claim would be false
abbrev pub LimitsNeeded : Type 0
LimitsNeeded =
    (s u : List ℕ) (base : ℕ)
    → (field_refusal s u base ≡ timelock_relative) ⊎ (field_refusal s u base ≡ timelock_absolute)
    → (t : ℕ) × (t < count s) × (SameLock s (per_day u) base t (fields_of s (per_day u) base t) → ⊥)
