-- An ending that is possible, and one that a list confirms to whatever destinations.
-- Assumes nothing.
use Rattle.laws.proofs.Prelude.{ℕ, ◌≤◌, ◌<◌, ◌≡◌, true, List, some, get_elem?, bit}
use Rattle.position.proofs.Rules.{count, Entry, coin_of}
use Rattle.endings.specs.Earliest.{earliest}
use Rattle.endings.specs.Plan.{planned}

-- the list has an entry of every transaction of the mask
abbrev pub Confirms : List ℕ → ℕ → List Entry → Type 0
Confirms s mask l = (x : ℕ) → x < count s → bit mask x ≡ true → (i : ℕ) × (e : Entry) × (get_elem? l i ≡ some e) × (e.transaction ≡ x)

-- no two of the mask are of one coin, and no earliest block is over the limit
pub record Possible (s : List ℕ) (per_day mask limit : ℕ) : Type 0 where
  pub apart : (x y : ℕ) → x < count s → y < count s → bit mask x ≡ true → bit mask y ≡ true → coin_of s x ≡ coin_of s y → x ≡ y
  pub within : (t : ℕ) → t < count s → planned s mask t ≡ true → earliest s per_day t ≤ limit
