-- Ancestry (document 01: line): recursion up the sheet, where a parent is always a lower number.
-- Assumes nothing.
use Rattle.std.specs.Prelude.{ℕ, Bool, false, ◌||◌, List, eqb}
use Rattle.laws.specs.Climb.{climb}
use Rattle.sheet.specs.Field.{parent, opening}
use Rattle.slots.specs.Conflict.{conflict_in, other_conflict_in}

-- "A transaction's line is itself and the line of its parent.": some transaction of t's line passes
unfoldable pub in_ancestry : List ℕ → (ℕ → Bool) → ℕ → Bool
in_ancestry s passes t = climb (parent s) (λ k above. passes k || above) false t

-- "itself and the line of its parent": k is of t's line
unfoldable pub is_self_or_ancestor : List ℕ → ℕ → ℕ → Bool
is_self_or_ancestor s k t = in_ancestry s (eqb k) t

-- "whose line meets a rival of these": of a member
unfoldable pub meets_conflict : List ℕ → (ℕ → Bool) → ℕ → Bool
meets_conflict s member t = in_ancestry s (conflict_in s member) t

-- "their line meets a different rival of a mined one", "a member of its line whose other rival is": of a member, other than that member
unfoldable pub meets_other : List ℕ → (ℕ → Bool) → ℕ → Bool
meets_other s member t = in_ancestry s (other_conflict_in s member) t

-- 15 "parent there": an opening has none to ask for
unfoldable pub has_parent : List ℕ → (ℕ → Bool) → ℕ → Bool
has_parent s member t = opening s t || member (parent s t)
