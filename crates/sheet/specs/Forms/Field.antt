-- What the functions that read fields answer.
-- Assumes nothing.
use Rattle.std.specs.Prelude.{ℕ, ◌≤◌, ◌<◌, ◌≡◌, List}
use Rattle.sheet.specs.Field.{arrays}

-- r is the byte v, in a wider type
pub record Wide (v r : ℕ) : Type 0 where
  pub is : r ≡ v
  pub small : r < 256

-- r is v, which is two or three
pub record Few (v r : ℕ) : Type 0 where
  pub is : r ≡ v
  pub some : 2 ≤ r
  pub few : r ≤ 3

-- r is where the arrays start, behind a head of at least five bytes
pub record Start (s : List ℕ) (r : ℕ) : Type 0 where
  pub is : r ≡ arrays s
  pub head : 5 ≤ r
  pub small : r < 256
