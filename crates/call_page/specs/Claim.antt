-- What is claimed of the page: its lines, read back, are the report's rows, for every position that is well formed. Every position that a
-- journal leads to is.
-- Assumes nothing.
use Rattle.std.specs.Prelude.{ℕ, suc, ◌+◌, ◌-◌, ◌*◌, ◌≤◌, ◌<◌, ◌≡◌, ◌&&◌, List, [], ◌∷◌, ◌++◌, eqb, ltb, length, take, drop}
use Rattle.laws.specs.Booleans.{pick}
use Rattle.laws.specs.Little.{bytes_of}
use Rattle.laws.specs.Same.{same}
use Rattle.sheet.specs.Field.{count}
use Rattle.sheet.specs.LockHeight.{never}
use Rattle.sheet.specs.Refusal.{accepted, buffer_short}
use Rattle.slots.specs.Destination.{alice, bob, carol, contract}
use Rattle.position.specs.declared.Position.{Position}
use Rattle.position.specs.Play.{run}
use Rattle.position.specs.Report.{unconfirmed, row}
use Rattle.position.specs.Printed.{printed_line}
use Rattle.step_laws.specs.Wellformed.{Wellformed}
use Rattle.call_page.specs.Line.{blank}
use Rattle.call_page.specs.Page.{alice_text, bob_text, carol_text, contract_text, never_text, page_of, page_answer}

-- "lines of exactly 72 characters and a line feed": line i of a page
unfoldable pub line_at : List ℕ → ℕ → List ℕ
line_at page i = take 73 (drop (73 * i) page)

-- a text without the blanks before it
unfoldable pub trimmed : List ℕ → List ℕ
trimmed [] = []
trimmed (x ∷ text) = pick (eqb x blank) (trimmed text) (x ∷ text)

-- what stands in a line from this place on, in so many places
unfoldable pub text_at : List ℕ → ℕ → ℕ → List ℕ
text_at line start width = trimmed (take width (drop start line))

-- digits to number, behind those that make n
unfoldable pub number_from : ℕ → List ℕ → ℕ
number_from n [] = n
number_from n (x ∷ text) = number_from (10 * n + (x - 48)) text

-- name to payee
unfoldable pub payee_of : List ℕ → ℕ
payee_of text =
    pick (same text alice_text) alice
    (pick (same text bob_text) bob
    (pick (same text contract_text) contract
    (pick (same text carol_text) carol unconfirmed)))

-- never to 2147483647, digits to number
unfoldable pub height_of : List ℕ → ℕ
height_of text = pick (same text never_text) never (number_from 0 text)

-- a line read back: "number right-aligned in 3, status in 4, payee in 9 .., block in 8, lock height in 16, deadline in 16"
unfoldable pub read_number : List ℕ → ℕ
read_number line = number_from 0 (text_at line 0 3)

-- the values as the bytes of a report's row
unfoldable pub read_row : List ℕ → List ℕ
read_row line =
    number_from 0 (text_at line 3 4)
    ∷ payee_of (text_at line 7 9)
    ∷ (bytes_of 4 (number_from 0 (text_at line 16 8))
    ++ (bytes_of 4 (height_of (text_at line 24 16)) ++ bytes_of 4 (height_of (text_at line 40 16))))

-- every line of every position's page has 72 characters and a line feed: no position is asked to be well formed
abbrev pub LinesLong : Type 0
LinesLong =
    (s u : List ℕ) (p : Position) → count s ≤ 32 → (i : ℕ) → i ≤ count s
    → length (line_at (page_of (count s) (printed_line s u p)) i) ≡ 73

-- the line of each transaction, read back, has its number and document 01's row of the report
abbrev pub ReadsBack : Type 0
ReadsBack =
    (s u : List ℕ) (p : Position) → count s ≤ 32 → Wellformed s p → (t : ℕ) → t < count s
    → let line = line_at (page_of (count s) (printed_line s u p)) (suc t) in (read_number line ≡ t) × (read_row line ≡ row s u p t)

-- so of every journal that is accepted
abbrev pub RunsReadBack : Type 0
RunsReadBack =
    (s u j : List ℕ) → (run s u j).refusal ≡ accepted → (t : ℕ) → t < count s
    → let p = (run s u j).position in
    let line = line_at (page_of (count s) (printed_line s u p)) (suc t) in (read_number line ≡ t) × (read_row line ≡ row s u p t)

-- The same of what the call leaves in its buffer where it answers 0: the journal is accepted, the page stands at the front, and "Bytes
-- after the output keep their values."
pub record PageWritten (s u j out buffer : List ℕ) : Type 0 where
  pub unrefused : (run s u j).refusal ≡ accepted
  pub bytes : take (73 * suc (count s)) buffer ≡ page_of (count s) (printed_line s u (run s u j).position)
  pub lines_long : (i : ℕ) → i ≤ count s → length (line_at buffer i) ≡ 73
  pub reads_back : (t : ℕ) → t < count s → (read_number (line_at buffer (suc t)) ≡ t) × (read_row (line_at buffer (suc t)) ≡ row s u (run s u j).position t)
  pub beyond : drop (73 * suc (count s)) buffer ≡ drop (73 * suc (count s)) out
  pub long : length buffer ≡ length out

-- what an answer, a number and a buffer afterwards, is to be
pub record PageAnswered (s u j out : List ℕ) (refusal : ℕ) (buffer : List ℕ) : Type 0 where
  -- the run's number, or 25 where that is 0 and the page, a header and a line for each transaction, has no room
  pub number : refusal ≡ pick (eqb (run s u j).refusal accepted && ltb (length out) (73 * suc (count s))) buffer_short (run s u j).refusal
  pub written : refusal ≡ accepted → PageWritten s u j out buffer
  -- "a refusal changes no buffer"
  pub refused : (refusal ≡ accepted → ⊥) → buffer ≡ out

-- what the call answers, for every input and buffer
abbrev pub PageAnswers : Type 0
PageAnswers = (s u j out : List ℕ) → let answer = page_answer s u j out in PageAnswered s u j out answer.refusal answer.buffer
