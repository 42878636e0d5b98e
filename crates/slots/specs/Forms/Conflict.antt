-- A rival among the members of a set, with or without the transaction itself.
-- Assumes nothing.
use Rattle.std.specs.Prelude.{ℕ, Bool, List}
use Rattle.laws.specs.Booleans.{pick}
use Rattle.slots.specs.Conflict.{conflict_in, other_conflict_in}

-- one of the two: with or without t itself
unfoldable pub found_in : List ℕ → (ℕ → Bool) → Bool → ℕ → Bool
found_in s member others t = pick others (other_conflict_in s member t) (conflict_in s member t)
