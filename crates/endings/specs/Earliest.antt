-- Slip 11, "When could this ending come at the earliest?": the earliest block of a transaction, by recursion up the sheet.
-- Assumes nothing.
use Rattle.std.specs.Prelude.{ℕ, ◌+◌, max, List}
use Rattle.laws.specs.Climb.{climb}
use Rattle.sheet.specs.Field.{parent}
use Rattle.ledger.specs.Ledger.{lock_from}

-- no block before the parent's, and the lock from the parent's block below it
unfoldable pub earliest_from : List ℕ → ℕ → ℕ → ℕ → ℕ
earliest_from s per_day t above = max above (lock_from s per_day above t + 1)

-- "its earliest block": an opening's over block 1
unfoldable pub earliest : List ℕ → ℕ → ℕ → ℕ
earliest s per_day t = climb (parent s) (earliest_from s per_day) 1 t
