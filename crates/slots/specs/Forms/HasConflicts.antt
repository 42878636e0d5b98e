-- A set some member of which has a rival but itself, over a test that tells the members.
-- Assumes nothing.
use Rattle.std.specs.Prelude.{ℕ, Bool, true, ◌&&◌, List}
use Rattle.laws.specs.Below.{any_below}
use Rattle.sheet.specs.Field.{count}
use Rattle.slots.specs.Conflict.{other_conflict_in}

-- some member has a rival but itself, in the set or not
unfoldable pub has_conflicts_in : List ℕ → (ℕ → Bool) → Bool
has_conflicts_in s member = any_below (count s) (λ k. member k && other_conflict_in s (λ j. true) k)
