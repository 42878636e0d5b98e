-- Who holds each coin in a position.
-- Assumes nothing.
use Rattle.std.specs.Prelude.{ℕ, List}
use Rattle.readings.specs.Holder.{holder}
use Rattle.position.specs.declared.Position.{Position}
use Rattle.position.specs.Position.{is_confirmed}
use Rattle.position.specs.Report.{payee}

-- "the engine's holders are read .. from the position"
unfoldable pub holder_in : List ℕ → Position → ℕ → ℕ
holder_in s p coin = holder s (is_confirmed p) (payee p) coin
