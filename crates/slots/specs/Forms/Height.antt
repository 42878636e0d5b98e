-- What the functions on heights answer.
-- Assumes nothing.
use Rattle.std.specs.Prelude.{ℕ, ◌+◌, ◌≤◌, ◌<◌, ◌≡◌}
use Rattle.sheet.specs.LockHeight.{never}

-- r is the number v of blocks, a byte times two bytes
pub record Blocks (v r : ℕ) : Type 0 where
  pub is : r ≡ v
  pub small : r < 16777216

-- r is the lock height h: never, a product, or a product above the parent's block e
pub record Lock (h e r : ℕ) : Type 0 where
  pub is : r ≡ h
  pub small : (bound : ℕ) → never < bound → e + 16777216 ≤ bound → r < bound

-- r is the height h, which is at most never
pub record Height (h r : ℕ) : Type 0 where
  pub is : r ≡ h
  pub small : r ≤ never
