-- The transactions that can have a deadline.
-- Assumes nothing.
use Rattle.std.specs.Prelude.{ℕ, Bool, not, List, eqb}
use Rattle.laws.specs.Booleans.{pick}
use Rattle.laws.specs.Mask.{bit}
use Rattle.laws.specs.Sets.{set_below}
use Rattle.sheet.specs.Field.{count, lock_type}
use Rattle.sheet.specs.LockHeight.{never}
use Rattle.slots.specs.Conflict.{other_conflict_in}
use Rattle.slots.specs.Deadline.{deadline}

-- "lock type (0 none, 1 absolute, 2 since the parent)": k has a lock
unfoldable pub has_lock : List ℕ → ℕ → Bool
has_lock s k = not (eqb (lock_type s k) 0)

-- "Deadline: the least rival lock height above one's own, else never": those of which some other rival has a lock
unfoldable pub expiring_set : List ℕ → ℕ
expiring_set s = set_below (count s) (other_conflict_in s (has_lock s))

-- the deadline of t, where `since` is its parent's block: never outside the set
unfoldable pub deadline_by : List ℕ → ℕ → ℕ → ℕ → ℕ → ℕ
deadline_by s d expiring since t = pick (bit expiring t) (deadline s d (λ k. since) t) never
