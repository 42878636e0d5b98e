-- What is read from the bytes of a report: "14 bytes for each transaction", and Slip 9's count in 4 more.
-- Assumes nothing.
use Rattle.std.specs.Prelude.{ℕ, ◌+◌, ◌*◌, Bool, List, [], ◌∷◌, get_or}
use Rattle.laws.specs.Little.{number_at}
use Rattle.laws.specs.Mask.{bit}
use Rattle.readings.specs.Holder.{holder}

-- "14 bytes for each transaction"; document 02, Slip 9: "Each transaction's bytes in the report gain this count at their end, 4 bytes"
abbrev pub row_width : ℕ
row_width = 18

-- "status"
unfoldable pub reported_status : List ℕ → ℕ → ℕ
reported_status report t = get_or report (row_width * t) 0

-- "payee"
unfoldable pub reported_payee : List ℕ → ℕ → ℕ
reported_payee report t = get_or report (row_width * t + 1) 0

-- "4 confirmed"
unfoldable pub reported_confirmed : List ℕ → ℕ → Bool
reported_confirmed report t = bit (reported_status report t) 2

-- "transaction, status, payee, block, lock height, deadline"
unfoldable pub reported_line : List ℕ → ℕ → List ℕ
reported_line report t =
    t ∷ reported_status report t ∷ reported_payee report t
    ∷ number_at 4 report (row_width * t + 2) ∷ number_at 4 report (row_width * t + 6) ∷ number_at 4 report (row_width * t + 10) ∷ []

-- the same of the bytes of t's row alone
unfoldable pub row_line : ℕ → List ℕ → List ℕ
row_line t row = t ∷ get_or row 0 0 ∷ get_or row 1 0 ∷ number_at 4 row 2 ∷ number_at 4 row 6 ∷ number_at 4 row 10 ∷ []

-- Slip 9's count
unfoldable pub reported_count : List ℕ → ℕ → ℕ
reported_count report t = number_at 4 report (row_width * t + 14)

-- "the engine's holders are read .. from the report"
unfoldable pub reported_holder : List ℕ → List ℕ → ℕ → ℕ
reported_holder s report coin = holder s (reported_confirmed report) (reported_payee report) coin
