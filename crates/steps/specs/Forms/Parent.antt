-- Where the parent's block is read.
-- Assumes nothing.
use Rattle.std.specs.Prelude.{ℕ, List, ltb}
use Rattle.laws.specs.Booleans.{pick}
use Rattle.sheet.specs.Field.{parent}

-- the place of the parent's slot; for an opening, which has none, that of the first
unfoldable pub slot_above : List ℕ → ℕ → ℕ
slot_above s t = pick (ltb (parent s t) 32) (parent s t) 0

-- the parent's block, where `height` stands at that place; 0 for an opening
unfoldable pub block_above : List ℕ → ℕ → ℕ → ℕ
block_above s t height = pick (ltb (parent s t) 32) height 0
