-- What the call timelocks answers: its number, and its buffer afterwards.
-- Assumes nothing.
use Rattle.std.specs.Prelude.{ℕ, Bool, true, false, List, [], ◌∷◌, ◌++◌, eqb, leb, length}
use Rattle.laws.specs.Failing.{first_failing}
use Rattle.laws.specs.Over.{over}
use Rattle.sheet.specs.Refusal.{accepted, buffer_short}
use Rattle.sheet.specs.Check.{sheet_tests}
use Rattle.sheet.specs.Setup.{per_day, setup_tests}
use Rattle.call_timelocks.specs.Fields.{timelock_bytes}
use Rattle.call_timelocks.specs.Limits.{limit_tests}

-- "Given sheet, setup and a base height": 26 and 27 are "tested after the setup"
unfoldable pub field_tests : List ℕ → List ℕ → ℕ → List (ℕ × Bool)
field_tests s u base = sheet_tests s ++ (setup_tests s u ++ limit_tests s (per_day u) base)

-- the refusal of the two numbers themselves, whatever the buffer is
unfoldable pub field_refusal : List ℕ → List ℕ → ℕ → ℕ
field_refusal s u base = first_failing (field_tests s u base)

-- "25 covers a short buffer; it is tested last."
unfoldable pub timelocks_tests : List ℕ → List ℕ → ℕ → List ℕ → List (ℕ × Bool)
timelocks_tests s u base out =
    field_tests s u base ++ ((buffer_short, leb (length (timelock_bytes s (per_day u) base)) (length out)) ∷ [])

-- the number and the buffer
pub record Answer : Type 0 where
  pub refusal : ℕ
  pub buffer : List ℕ

-- "Bytes after the output keep their values.", "a refusal changes no buffer"
unfoldable pub timelocks_answer : List ℕ → List ℕ → ℕ → List ℕ → Answer
timelocks_answer s u base out =
    let number = first_failing (timelocks_tests s u base out) in
    elim (eqb number accepted) [
      | true ↦ record { refusal = accepted; buffer = over (timelock_bytes s (per_day u) base) out }
      | false ↦ record { refusal = number; buffer = out }
    ]
