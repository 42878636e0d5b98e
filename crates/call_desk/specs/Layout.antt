-- A bundle as a caller makes it: laid out from its swaps, in any order.
-- Assumes nothing.
use Rattle.std.specs.Prelude.{ℕ, ◌≤◌, ◌<◌, ◌≡◌, true, length}
use mathlib.Core.List.{List, ◌∷◌, ◌++◌, flat_map}
use Rattle.laws.specs.All.{All}
use Rattle.laws.specs.Little.{bytes_of}
use Rattle.position.specs.Play.{run}
use Rattle.call_desk.specs.Bundle.{bundle_right}
use Rattle.call_desk.specs.Desk.{entry_bytes, desk_bytes}

-- what a swap brings
pub record Swap : Type 0 where
  pub setup : List ℕ
  pub journal : List ℕ

-- "one count byte .., then two parallel arrays of 4-byte setups and 4-byte journal lengths, then the journals end to end"
unfoldable pub bundle_of : List Swap → List ℕ
bundle_of l =
    length l ∷ (flat_map (λ x. x.setup) l ++ (flat_map (λ x. bytes_of 4 (length x.journal)) l ++ flat_map (λ x. x.journal) l))

-- a swap that can stand in a bundle: a setup of 4 bytes, right or wrong, and a journal whose length has 4 bytes
pub record Fitting (x : Swap) : Type 0 where
  pub setup_size : length x.setup ≡ 4
  pub journal_size : length x.journal < 4294967296

-- the number and the count of a single run of the swap
unfoldable pub answer_of : List ℕ → Swap → List ℕ
answer_of s x = entry_bytes (run s x.setup x.journal).refusal (run s x.setup x.journal).accepted

-- A bundle of at most 64 such swaps is none that gets 28, and the answers are those of its swaps, each by itself, in their order: in
-- another order of the swaps they are the same ones in that order.
abbrev pub LaidOut : Type 0
LaidOut =
    (s : List ℕ) (l : List Swap)
    → length l ≤ 64
    → All Fitting l
    → (bundle_right (bundle_of l) ≡ true) × (desk_bytes s (bundle_of l) ≡ flat_map (answer_of s) l)
