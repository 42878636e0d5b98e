-- Conflicts (document 01: rivals), over a test that tells the members of a set of transactions.
-- Assumes nothing.
use Rattle.std.specs.Prelude.{ℕ, Bool, not, ◌&&◌, ◌||◌, List, eqb}
use Rattle.laws.specs.Below.{any_below}
use Rattle.sheet.specs.Field.{count, parent, opening}

-- "Rivals: transactions of one parent, itself included; an opening rivals only itself."
unfoldable pub conflict : List ℕ → ℕ → ℕ → Bool
conflict s k t = eqb k t || (not (opening s k) && eqb (parent s k) (parent s t))

-- some rival of t is a member
unfoldable pub conflict_in : List ℕ → (ℕ → Bool) → ℕ → Bool
conflict_in s member t = any_below (count s) (λ k. conflict s k t && member k)

-- "whose other rival is": some rival of t but t itself is a member
unfoldable pub other_conflict_in : List ℕ → (ℕ → Bool) → ℕ → Bool
other_conflict_in s member t = conflict_in s (λ k. not (eqb k t) && member k) t

-- 14 "no rival in pool or confirmed", "the same against confirmed and the block being filled"
unfoldable pub no_conflict : List ℕ → (ℕ → Bool) → ℕ → Bool
no_conflict s member t = not (conflict_in s member t)
