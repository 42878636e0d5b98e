-- Coins: a coin is its opening and what stands below it.
-- Assumes nothing.
use Rattle.std.specs.Prelude.{ℕ, List}
use Rattle.laws.specs.Booleans.{pick}
use Rattle.laws.specs.Climb.{climb}
use Rattle.sheet.specs.Field.{parent, opening}

-- "the coin's opening or below it": the opening at the top of t's line
unfoldable pub coin_of : List ℕ → ℕ → ℕ
coin_of s t = climb (parent s) (λ k above. pick (opening s k) k above) t t

-- "nobody"
abbrev pub nobody : ℕ
nobody = 255
