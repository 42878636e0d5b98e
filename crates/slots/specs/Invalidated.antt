-- Invalidated transactions (document 01: dead).
-- Assumes nothing.
use Rattle.std.specs.Prelude.{ℕ, Bool, not, ◌&&◌, List}
use Rattle.slots.specs.Ancestry.{meets_other}

-- "Dead: not confirmed, with a member of its line whose other rival is confirmed."
unfoldable pub invalidated : List ℕ → (ℕ → Bool) → ℕ → Bool
invalidated s confirmed t = not (confirmed t) && meets_other s confirmed t
