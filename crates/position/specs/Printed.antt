-- What the program swapreport prints, as the numbers of each line.
-- Assumes nothing.
use Rattle.std.specs.Prelude.{ℕ, true, false, List, [], ◌∷◌, eqb}
use Rattle.laws.specs.Gather.{gather}
use Rattle.sheet.specs.Refusal.{accepted}
use Rattle.sheet.specs.Field.{count}
use Rattle.position.specs.Play.{run}
use Rattle.readings.specs.Reported.{row_line}
use Rattle.position.specs.declared.Position.{Position}
use Rattle.position.specs.Report.{row}

-- "then transaction, status, payee, block, lock height, deadline": the line of t, of document 01's row; Slip 9: "swapreport's lines keep
-- their form"
unfoldable pub printed_line : List ℕ → List ℕ → Position → ℕ → List ℕ
printed_line s u p t = row_line t (row s u p t)

-- a line for each transaction
unfoldable pub printed_lines : List ℕ → List ℕ → Position → List (List ℕ)
printed_lines s u p = gather (count s) (λ t. printed_line s u p t ∷ [])

-- "It prints steps accepted, refusal, blocks; then ..", "On a refusal it prints the first line only, blocks 0."
unfoldable pub printed : List ℕ → List ℕ → List ℕ → List (List ℕ)
printed s u j =
    let r = run s u j in
    elim (eqb r.refusal accepted) [
      | true ↦ (r.accepted ∷ accepted ∷ r.position.mined ∷ []) ∷ printed_lines s u r.position
      | false ↦ (r.accepted ∷ r.refusal ∷ 0 ∷ []) ∷ []
    ]
