-- Commit: "takes step, count and a lent buffer with the journal's length, and on acceptance writes the four bytes after the journal".
-- Assumes nothing.
use Rattle.std.specs.Prelude.{ℕ, ◌+◌, Bool, true, false, ◌&&◌, List, [], ◌∷◌, ◌++◌, eqb, leb, length, take, drop}
use Rattle.laws.specs.Failing.{first_failing}
use Rattle.sheet.specs.Refusal.{accepted, buffer_short, count_stale}
use Rattle.position.specs.declared.Ran.{Ran}
use Rattle.position.specs.Answers.{Written}
use Rattle.call_ask.specs.Ask.{length_right, open_run, step_count, step_number, own}

-- "24 now covers a length beyond the buffer too"
unfoldable pub length_within : List ℕ → ℕ → Bool
length_within buffer n = leb n (length buffer) && length_right n

-- the run of the journal, which is the first n bytes of the buffer
unfoldable pub commit_run : List ℕ → List ℕ → List ℕ → ℕ → Ran
commit_run s u buffer n = open_run s u (length_within buffer n) (take n buffer)

-- the tests after the journal's run r: "35 when the count isn't the journal's; tested after the journal's own refusal .. and before the
-- step"; "25 when the buffer has no four bytes left, tested after the step's own refusals"
unfoldable pub commit_tests : List ℕ → List ℕ → Ran → List ℕ → ℕ → List ℕ → ℕ → List (ℕ × Bool)
commit_tests s u r b c buffer n =
    own r.refusal
    ∷ (count_stale, eqb c (step_count (take n buffer)))
    ∷ own (step_number s u r.position b)
    ∷ (buffer_short, leb (n + 4) (length buffer))
    ∷ []

-- "writes the four bytes after the journal. Bytes beyond them stay untouched."
unfoldable pub committed : List ℕ → List ℕ → ℕ → List ℕ
committed b buffer n = take n buffer ++ (b ++ drop (n + 4) buffer)

-- "Commit answers a number"; "on acceptance writes", "a refusal changes no buffer"
unfoldable pub commit_answer : List ℕ → List ℕ → List ℕ → ℕ → List ℕ → ℕ → Written
commit_answer s u b c buffer n =
    let number = first_failing (commit_tests s u (commit_run s u buffer n) b c buffer n) in
    elim (eqb number accepted) [
      | true ↦ record { refusal = accepted; count = 0; buffer = committed b buffer n }
      | false ↦ record { refusal = number; count = 0; buffer = buffer }
    ]
