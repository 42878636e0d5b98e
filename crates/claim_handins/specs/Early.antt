-- The steps of kinds 1, 2 and 3: in a row, and among the bytes of a list of open steps.
-- Assumes nothing.
use Rattle.std.specs.Prelude.{ℕ, ◌*◌, Bool, ◌&&◌, List, [], ◌∷◌, ◌++◌, leb, take}
use Rattle.laws.specs.Booleans.{pick}
use Rattle.position.specs.Play.{FourBytes}
use Rattle.position.specs.Answers.{Written}

-- "kinds 1, 2 and 3"
unfoldable pub early_kind : ℕ → Bool
early_kind kind = leb 1 kind && leb kind 3

-- "such steps": four bytes of one of these kinds, whatever the other three are
unfoldable pub early : FourBytes → Bool
early b = early_kind b.kind

-- of the bytes of a row of steps, "4 bytes a step", those of the steps of these kinds
unfoldable pub early_bytes : List ℕ → List ℕ
early_bytes [] = []
early_bytes (k ∷ []) = []
early_bytes (k ∷ a ∷ []) = []
early_bytes (k ∷ a ∷ t ∷ []) = []
early_bytes (k ∷ a ∷ t ∷ d ∷ rest) = pick (early_kind k) (k ∷ a ∷ t ∷ d ∷ []) [] ++ early_bytes rest

-- "the steps written": their bytes, at the front of the buffer afterwards
unfoldable pub written_bytes : Written → List ℕ
written_bytes w = take (4 * w.count) w.buffer
