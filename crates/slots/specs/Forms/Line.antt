-- A transaction's line as a set.
-- Assumes nothing.
use Rattle.std.specs.Prelude.{ℕ, true, List}
use Rattle.laws.specs.Climb.{climb}
use Rattle.laws.specs.Sets.{joined}
use Rattle.sheet.specs.Field.{parent}

-- "A transaction's line is itself and the line of its parent."
unfoldable pub line_set : List ℕ → ℕ → ℕ
line_set s t = climb (parent s) (λ k above. joined above true k) 0 t
