-- What keeps the two numbers within Bitcoin's fields: 26 and 27, each as the test that must hold.
-- Assumes nothing.
use Rattle.std.specs.Prelude.{ℕ, Bool, not, ◌||◌, List, [], ◌∷◌, eqb, ltb, leb}
use Rattle.laws.specs.Below.{all_below}
use Rattle.sheet.specs.Field.{count, lock_type}
use Rattle.sheet.specs.Refusal.{timelock_relative, timelock_absolute}
use Rattle.call_timelocks.specs.Fields.{n_lock_time, n_sequence}

-- 26 "when a since-parent value is above 65,535"
unfoldable pub relative_right : List ℕ → ℕ → ℕ → Bool
relative_right s per_day t = not (eqb (lock_type s t) 2) || leb (n_sequence s per_day t) 65535

-- 27 "when base plus an absolute lock's height reaches 500,000,000"
unfoldable pub absolute_right : List ℕ → ℕ → ℕ → ℕ → Bool
absolute_right s per_day base t = not (eqb (lock_type s t) 1) || ltb (n_lock_time s per_day base t) 500000000

-- 26 "before 27": each for all transactions before the next for any
unfoldable pub limit_tests : List ℕ → ℕ → ℕ → List (ℕ × Bool)
limit_tests s per_day base =
    (timelock_relative, all_below (count s) (relative_right s per_day))
    ∷ (timelock_absolute, all_below (count s) (absolute_right s per_day base))
    ∷ []
