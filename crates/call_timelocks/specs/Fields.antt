-- The two numbers of each transaction: "The signing boxes need nLockTime and nSequence."
-- Assumes nothing.
use Rattle.std.specs.Prelude.{ℕ, ◌+◌, List, ◌++◌, eqb}
use Rattle.laws.specs.Booleans.{pick}
use Rattle.laws.specs.Gather.{gather}
use Rattle.laws.specs.Little.{bytes_of}
use Rattle.sheet.specs.Field.{count, lock_type}
use Rattle.sheet.specs.LockHeight.{lock_blocks}

-- "No lock: 0 ..", "Absolute: base plus lock height ..", "Since the parent: 0 .."
unfoldable pub n_lock_time : List ℕ → ℕ → ℕ → ℕ → ℕ
n_lock_time s per_day base t = pick (eqb (lock_type s t) 1) (base + lock_blocks s per_day t) 0

-- No lock: "FFFFFFFF (hexadecimal)". Absolute: "FFFFFFFE". Since the parent: "days × blocks per day + 1"
unfoldable pub n_sequence : List ℕ → ℕ → ℕ → ℕ
n_sequence s per_day t =
    pick (eqb (lock_type s t) 0) 4294967295
    (pick (eqb (lock_type s t) 1) 4294967294
    (lock_blocks s per_day t + 1))

-- "each transaction yields two 4-byte numbers"
unfoldable pub field_bytes : List ℕ → ℕ → ℕ → ℕ → List ℕ
field_bytes s per_day base t = bytes_of 4 (n_lock_time s per_day base t) ++ bytes_of 4 (n_sequence s per_day t)

-- transaction by transaction, in the sheet's order
unfoldable pub timelock_bytes : List ℕ → ℕ → ℕ → List ℕ
timelock_bytes s per_day base = gather (count s) (field_bytes s per_day base)
