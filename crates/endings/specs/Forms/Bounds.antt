-- What the functions on earliest blocks answer: the number, and how large it is.
-- Assumes nothing.
use Rattle.std.specs.Prelude.{ℕ, ◌+◌, ◌*◌, ◌≤◌, ◌≡◌}

-- r is the lock l over the block `above`
pub record Locked (l above r : ℕ) : Type 0 where
  pub is : r ≡ l
  pub small : r ≤ above + 16777215

-- r is the earliest block e of transaction t
pub record Early (e t r : ℕ) : Type 0 where
  pub is : r ≡ e
  pub small : r ≤ 16777217 * (t + 1)

-- r is the number n of some of t bits
pub record Ones (n t r : ℕ) : Type 0 where
  pub is : r ≡ n
  pub few : r ≤ t
