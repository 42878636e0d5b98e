-- What the functions that read a bundle ask and answer.
-- Assumes nothing.
use Rattle.std.specs.Prelude.{ℕ, ◌+◌, ◌*◌, ◌≤◌, ◌<◌, ◌≡◌, List, length}
use Rattle.call_desk.specs.Bundle.{swaps, length_of, journals, start_of}

-- a bundle with room for its arrays
pub record Arrays (b : List ℕ) : Type 0 where
  pub few : swaps b ≤ 64
  pub room : journals b ≤ length b

-- r is the length of swap i's journal, a number of four bytes
pub record Length (b : List ℕ) (i r : ℕ) : Type 0 where
  pub is : r ≡ length_of b i
  pub small : r < 4294967296

-- swap i's setup ends within the bundle, and so does its journal, which has `size` bytes from `start` on
pub record Stands (b : List ℕ) (i start size : ℕ) : Type 0 where
  pub start_is : start ≡ start_of b i
  pub size_is : size ≡ length_of b i
  pub setup_ends : 1 + 4 * i + 4 ≤ length b
  pub journal_ends : start + size ≤ length b
