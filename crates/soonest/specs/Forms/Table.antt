-- Tables over the sheet: a number for each transaction.
-- Assumes nothing.
use Rattle.std.specs.Prelude.{ℕ, ◌<◌, ◌≡◌, List, ltb, length, get_or}
use Rattle.laws.specs.Booleans.{pick}
use Rattle.sheet.specs.Field.{parent}

-- for each k below n the number in its place is what is told of k
pub record Filled (told : ℕ → ℕ → Type 0) (n : ℕ) (table : List ℕ) : Type 0 where
  pub size : length table ≡ 32
  pub each : (k : ℕ) → k < n → told k (get_or table k 0)

-- what stands for the parent of t, 0 for an opening
unfoldable pub table_above : List ℕ → List ℕ → ℕ → ℕ
table_above s table t = pick (ltb (parent s t) t) (get_or table (parent s t) 0) 0
