-- Deadlines, over a function that gives each transaction's block, 0 where it is unconfirmed.
-- Assumes nothing.
use Rattle.std.specs.Prelude.{ℕ, ◌&&◌, List, ltb}
use Rattle.laws.specs.Least.{least_below}
use Rattle.sheet.specs.Field.{count}
use Rattle.sheet.specs.LockHeight.{lock_height, never}
use Rattle.slots.specs.Conflict.{conflict}

-- "Deadline: the least rival lock height above one's own, else never."
unfoldable pub deadline : List ℕ → ℕ → (ℕ → ℕ) → ℕ → ℕ
deadline s per_day block t =
    least_below (count s)
    (λ k. conflict s k t && ltb (lock_height s per_day block t) (lock_height s per_day block k))
    (lock_height s per_day block)
    never
