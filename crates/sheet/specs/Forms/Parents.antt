-- The parents of a set of transactions, over a test that tells its members.
-- Assumes nothing.
use Rattle.std.specs.Prelude.{ℕ, ◌<◌, ◌≡◌, Bool, ◌&&◌, ◌||◌, List, eqb}
use Rattle.laws.specs.Below.{any_below}
use Rattle.laws.specs.Mask.{bit}
use Rattle.sheet.specs.Field.{parent}

-- k is a member and a child of p
unfoldable pub child_there : List ℕ → (ℕ → Bool) → ℕ → ℕ → Bool
child_there s member p k = member k && eqb p (parent s k)

-- some member below n is a child of p
unfoldable pub is_parent_below : List ℕ → (ℕ → Bool) → ℕ → ℕ → Bool
is_parent_below s member n p = any_below n (child_there s member p)

-- r has those below 32 that have a child among the members below n
pub record Parents (s : List ℕ) (member : ℕ → Bool) (n r : ℕ) : Type 0 where
  pub at : (p : ℕ) → p < 32 → bit r p ≡ is_parent_below s member n p

-- r is m, with k's parent too where k is a member
pub record ParentAdded (s : List ℕ) (member : ℕ → Bool) (k m r : ℕ) : Type 0 where
  pub at : (p : ℕ) → p < 32 → bit r p ≡ (bit m p || child_there s member p k)
