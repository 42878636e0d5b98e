-- Ask: would a step pass after a journal? "Ask changes nothing and answers the refusal number with the count of steps in the journal."
-- Assumes nothing.
use Rattle.std.specs.Prelude.{ℕ, ◌%◌, Bool, true, false, ◌&&◌, List, [], ◌∷◌, ◌++◌, eqb, ltb, length}
use Rattle.laws.specs.Booleans.{pick}
use Rattle.laws.specs.Failing.{first_failing}
use Rattle.sheet.specs.declared.refusal.Answer.{Answer}
use Rattle.sheet.specs.Refusal.{accepted, step_field, journal_length}
use Rattle.sheet.specs.Field.{byte}
use Rattle.sheet.specs.Check.{sheet_tests}
use Rattle.sheet.specs.Setup.{setup_tests}
use Rattle.position.specs.declared.Position.{Position}
use Rattle.position.specs.declared.Ran.{Ran}
use Rattle.position.specs.Position.{start}
use Rattle.position.specs.Play.{FourBytes, journal_steps, step, run}

-- 24 "journal not a multiple of 4, or over 65,536 bytes"; "24 now covers .., in both calls, a journal already at 65,536 bytes": a journal
-- of this length has whole steps, and room for one more
unfoldable pub length_right : ℕ → Bool
length_right n = eqb (n % 4) 0 && ltb n 65536

-- the tests before any step, as in a run: sheet, setup, then 24, which passes or not
unfoldable pub open_tests : List ℕ → List ℕ → Bool → List (ℕ × Bool)
open_tests s u right = sheet_tests s ++ (setup_tests s u ++ ((journal_length, right) ∷ []))

-- the journal's run, behind these tests: "the journal's own refusal (in ask with run's count)"
unfoldable pub open_run : List ℕ → List ℕ → Bool → List ℕ → Ran
open_run s u right j =
    let number = first_failing (open_tests s u right) in
    elim (eqb number accepted) [
      | true ↦ run s u j
      | false ↦ record { refusal = number; accepted = 0; position = start s }
    ]

-- "the count of steps in the journal"
unfoldable pub step_count : List ℕ → ℕ
step_count j = length (journal_steps j)

-- the step that four bytes are
unfoldable pub step_of : List ℕ → FourBytes
step_of b = record { kind = byte b 0; party = byte b 1; transaction = byte b 2; destination = byte b 3 }

-- the step's own refusal, 0 where it would pass: "A step not of 4 bytes gets 11."
unfoldable pub step_number : List ℕ → List ℕ → Position → List ℕ → ℕ
step_number s u p b = pick (eqb (length b) 4) (step s u p (step_of b)).refusal step_field

-- a number that stands for itself: the test fails where it is a refusal
abbrev pub own : ℕ → ℕ × Bool
own number = (number, eqb number accepted)

-- the tests of ask after the journal's run r: the journal's own refusal, then the step's
unfoldable pub ask_tests : List ℕ → List ℕ → Ran → List ℕ → List (ℕ × Bool)
ask_tests s u r b = own r.refusal ∷ own (step_number s u r.position b) ∷ []

-- "the refusal number with the count of steps in the journal"; where the journal is refused "run's count"
unfoldable pub ask_answer : List ℕ → List ℕ → List ℕ → List ℕ → Answer
ask_answer s u j b =
    let r = open_run s u (length_right (length j)) j in
    record {
      refusal = first_failing (ask_tests s u r b);
      count = pick (eqb r.refusal accepted) (step_count j) r.accepted;
    }
