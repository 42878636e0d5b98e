-- Holders as the code works them out.
-- Assumes nothing.
use Rattle.std.specs.Prelude.{ℕ, Bool, List}
use Rattle.laws.specs.Booleans.{pick}
use Rattle.laws.specs.Climb.{climb}
use Rattle.sheet.specs.Field.{parent, opening}
use Rattle.readings.specs.Holder.{holder}

-- the coin of t as a recursion up the sheet works it out: the first opening from t up, `first` where there is none
unfoldable pub coin_from : List ℕ → ℕ → ℕ → ℕ
coin_from s first t = climb (parent s) (λ k above. pick (opening s k) k above) first t

-- the number of the transaction whose payee holds the coin, 255 where nobody does
unfoldable pub coin_end : List ℕ → (ℕ → Bool) → ℕ → ℕ
coin_end s confirmed coin = holder s confirmed (λ t. t) coin
