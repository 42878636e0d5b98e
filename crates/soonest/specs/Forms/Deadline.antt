-- The soonest deadline over what is read once: `since`, the parent's block, and e, its soonest one.
-- Assumes nothing.
use Rattle.std.specs.Prelude.{ℕ, List}
use Rattle.laws.specs.Least.{least_below}
use Rattle.sheet.specs.Field.{count}
use Rattle.sheet.specs.LockHeight.{never}
use Rattle.slots.specs.Conflict.{conflict}
use Rattle.soonest.specs.Soonest.{counts_at}

-- the least of what counts at the rivals
unfoldable pub deadline_over : List ℕ → ℕ → ℕ → ℕ → ℕ → ℕ
deadline_over s per_day since e t = least_below (count s) (λ k. conflict s k t) (counts_at s per_day (λ j. since) e t) never
