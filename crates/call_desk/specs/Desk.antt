-- A whole desk in one call: the run of each swap of a bundle, all on one sheet.
-- Assumes nothing.
use Rattle.std.specs.Prelude.{ℕ, Bool, true, false, List, [], ◌∷◌, ◌++◌, eqb}
use Rattle.laws.specs.Failing.{first_failing}
use Rattle.laws.specs.Gather.{gather}
use Rattle.laws.specs.Little.{bytes_of}
use Rattle.sheet.specs.Refusal.{accepted, bundle_layout}
use Rattle.sheet.specs.Check.{sheet_tests}
use Rattle.position.specs.declared.Ran.{Ran}
use Rattle.position.specs.Play.{run}
use Rattle.position.specs.Answers.{Written, fitted}
use Rattle.call_desk.specs.Bundle.{swaps, setup_of, journal_of, bundle_right}

-- the run of swap i: of the sheet, its setup and its journal, whatever the others get. "A refusal in one swap doesn't touch the others."
unfoldable pub swap_run : List ℕ → List ℕ → ℕ → Ran
swap_run s b i = run s (setup_of b i) (journal_of b i)

-- "its number and then its accepted count, 4 bytes each"
unfoldable pub entry_bytes : ℕ → ℕ → List ℕ
entry_bytes number count = bytes_of 4 number ++ bytes_of 4 count

-- those of swap i
unfoldable pub swap_bytes : List ℕ → List ℕ → ℕ → List ℕ
swap_bytes s b i = entry_bytes (swap_run s b i).refusal (swap_run s b i).accepted

-- "The answers, for each swap .., equal those of single run calls in the same order."
unfoldable pub desk_bytes : List ℕ → List ℕ → List ℕ
desk_bytes s b = gather (swaps b) (swap_bytes s b)

-- 28: "tested after the sheet and before any setup"
unfoldable pub desk_tests : List ℕ → List ℕ → List (ℕ × Bool)
desk_tests s b = sheet_tests s ++ ((bundle_layout, bundle_right b) ∷ [])

-- "25 when the buffer is under 8 bytes for each swap, tested after 28."
unfoldable pub desk_answer : List ℕ → List ℕ → List ℕ → Written
desk_answer s b out =
    let number = first_failing (desk_tests s b) in
    elim (eqb number accepted) [
      | true ↦ fitted (desk_bytes s b) 0 out
      | false ↦ record { refusal = number; count = 0; buffer = out }
    ]
