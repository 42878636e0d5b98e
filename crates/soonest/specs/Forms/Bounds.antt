-- What the functions on soonest blocks answer, and that it fits.
-- Assumes nothing.
use Rattle.std.specs.Prelude.{ℕ, ◌+◌, ◌*◌, ◌≤◌, ◌≡◌}

-- e is below a bound that t's line allows
abbrev pub Below : ℕ → ℕ → Type 0
Below t e = e ≤ 2147549184 + 16777216 * t

-- r is the soonest block b of t
pub record Soon (b t r : ℕ) : Type 0 where
  pub is : r ≡ b
  pub small : r ≤ 2147549184 + 16777216 * (t + 1)

-- r is the soonest block b of the parent of t
pub record SoonAbove (b t r : ℕ) : Type 0 where
  pub is : r ≡ b
  pub small : r ≤ 2147549184 + 16777216 * t
