-- The few steps that matter: "a part of the journal, steps in their old order, that ends with the refused step, still runs up to it and
-- gets the same number there".
-- Assumes nothing.
use Rattle.std.specs.Prelude.{ℕ, zero, suc, ◌+◌, ◌*◌, Bool, true, false, not, ◌&&◌, List, [], ◌∷◌, ◌++◌, eqb, ltb, leb, length, take}
use Rattle.laws.specs.Failing.{first_failing}
use Rattle.sheet.specs.Refusal.{accepted, journal_long, none_refused}
use Rattle.position.specs.declared.Position.{Position}
use Rattle.position.specs.Position.{start}
use Rattle.position.specs.Play.{FourBytes, journal_steps, journal_bytes, run_from, call_tests, run}
use Rattle.position.specs.Answers.{Written, fitted}

-- "still runs up to it and gets the same number there": from a position on, every step of the row but the last is accepted, and the last
-- gets this number
unfoldable pub still_refused : List ℕ → List ℕ → ℕ → Position → List FourBytes → Bool
still_refused s u number p row =
    let r = run_from s u row 0 p in
    eqb r.refusal number && eqb (r.accepted + 1) (length row)

-- a step "can go" between the steps kept before it and those after it: it is none but the last, and the row without it is still refused
unfoldable pub can_go : List ℕ → List ℕ → ℕ → List FourBytes → List FourBytes → Bool
can_go s u number kept after = ltb 0 (length after) && still_refused s u number (start s) (kept ++ after)

-- "go through from the first step, drop each that can go": the steps kept so far, and those that are still to be looked at
unfoldable pub round_from : List ℕ → List ℕ → ℕ → List FourBytes → List FourBytes → List FourBytes
round_from s u number kept [] = kept
round_from s u number kept (b ∷ after) =
    elim (can_go s u number kept after) [
      | true ↦ round_from s u number kept after
      | false ↦ round_from s u number (kept ++ (b ∷ [])) after
    ]

-- a full round
unfoldable pub round : List ℕ → List ℕ → ℕ → List FourBytes → List FourBytes
round s u number row = round_from s u number [] row

-- "and repeat until a full round drops none", k rounds at most
unfoldable pub rounds : List ℕ → List ℕ → ℕ → ℕ → List FourBytes → List FourBytes
rounds s u number zero row = row
rounds s u number (suc k) row =
    let next = round s u number row in
    elim (eqb (length next) (length row)) [ true ↦ row | false ↦ rounds s u number k next ]

-- each round but the last drops a step, so as many rounds as there are steps are enough
unfoldable pub shrunk : List ℕ → List ℕ → ℕ → List FourBytes → List FourBytes
shrunk s u number row = rounds s u number (length row) row

-- the journal up to the refused step and with it
unfoldable pub refused_row : List ℕ → List ℕ → List ℕ → List FourBytes
refused_row s u j = take ((run s u j).accepted + 1) (journal_steps j)

-- "the few steps that matter"
unfoldable pub few_steps : List ℕ → List ℕ → List ℕ → List FourBytes
few_steps s u j = shrunk s u (run s u j).refusal (refused_row s u j)

-- "over 1,024 steps", of 4 bytes each
unfoldable pub long_tests : List ℕ → List ℕ → List ℕ → List (ℕ × Bool)
long_tests s u j = call_tests s u j ++ ((journal_long, leb (length j) (4 * 1024)) ∷ [])

-- "36 .., tested after 24. 37 when no step of the journal is refused."
unfoldable pub shrink_tests : List ℕ → List ℕ → List ℕ → List (ℕ × Bool)
shrink_tests s u j = long_tests s u j ++ ((none_refused, not (eqb (run s u j).refusal accepted)) ∷ [])

-- "The answer has the steps written, 0 when refused. 25 is tested last."; "a refusal changes no buffer"
unfoldable pub shrink_answer : List ℕ → List ℕ → List ℕ → List ℕ → Written
shrink_answer s u j out =
    let number = first_failing (shrink_tests s u j) in
    elim (eqb number accepted) [
      | true ↦ fitted (journal_bytes (few_steps s u j)) (length (few_steps s u j)) out
      | false ↦ record { refusal = number; count = 0; buffer = out }
    ]
