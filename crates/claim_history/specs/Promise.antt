-- Demand 3 of the engine: what `history` promises of what it returned and wrote.
-- Assumes nothing.
use Rattle.std.specs.Prelude.{ℕ, ◌*◌, ◌≤◌, ◌≡◌, Bool, true, false, ◌&&◌, List, [], ◌∷◌, ◌++◌, eqb, leb, length, take, replicate}
use Rattle.laws.specs.Booleans.{pick}
use Rattle.laws.specs.Each.{rewrite_first}
use Rattle.laws.specs.Failing.{first_failing}
use Rattle.laws.specs.Over.{over}
use Rattle.sheet.specs.Refusal.{accepted, buffer_short}
use Rattle.sheet.specs.Field.{count}
use Rattle.sheet.specs.Check.{sheet_tests}
use Rattle.sheet.specs.Setup.{conduct, setup_tests}
use Rattle.ledger.specs.Coin.{nobody}
use Rattle.ledger.specs.Entry.{in_order}
use Rattle.ledger.specs.Ledger.{ledger_holder}
use Rattle.steps.specs.Names.{secret_alice, secret_bob}
use Rattle.readings.specs.Reported.{row_width, reported_holder}
use Rattle.position.specs.Holder.{holder_in}
use Rattle.position.specs.Position.{start}
use Rattle.position.specs.Play.{FourBytes, journal_steps, journal_bytes, accepted_of}
use Rattle.claim_ledger.specs.Claim.{entries_of, books_of, position_of, report_of, Same}
use Rattle.claim_careful.specs.Claim.{known, PaidOnce}
use Rattle.claim_history.specs.declared.Outcome.{Outcome}

-- "the accepted steps" of a list, as a journal
abbrev pub accepted_bytes : List ℕ → List ℕ → List FourBytes → List ℕ
accepted_bytes s u bs = journal_bytes (accepted_of s u bs (start s))

-- the two buffers have room: one for the accepted steps, one for the report's bytes of each transaction
unfoldable pub room_right : List ℕ → List ℕ → List FourBytes → List ℕ → List ℕ → Bool
room_right s u bs a o = leb (length (accepted_bytes s u bs)) (length a) && leb (row_width * count s) (length o)

-- the sheet's refusal, else the setup's, else 25 where a buffer is too short, else 0
unfoldable pub history_number : List ℕ → List ℕ → List FourBytes → List ℕ → List ℕ → ℕ
history_number s u bs a o = first_failing (sheet_tests s ++ (setup_tests s u ++ ((buffer_short, room_right s u bs a o) ∷ [])))

-- where no coin is held
abbrev pub nobodies : List ℕ
nobodies = replicate 32 nobody

-- the holders that are read: at each number of the sheet who holds that coin, nobody after the last
unfoldable pub holders : List ℕ → (ℕ → ℕ) → List ℕ
holders s held = rewrite_first (count s) (λ coin x. held coin) nobodies

-- "from the report of the accepted steps where that report answers 0", of its bytes
unfoldable pub reported_holders : ℕ → List ℕ → List ℕ → List ℕ
reported_holders answer s report = pick (eqb answer accepted) (holders s (reported_holder s report)) nobodies

-- In all that follows: s is the sheet, u the setup, bs the list of steps, a and o the buffers for the accepted steps and for the report
-- as they were; r is what came back, a' and o' are the buffers afterwards.

-- with a number other than 0: nothing is played, nothing is written or read
pub record Unplayed (s a o : List ℕ) (r : Outcome) (a' o' : List ℕ) : Type 0 where
  pub position : r.position ≡ start s
  pub report : r.report ≡ accepted
  pub held : r.held ≡ nobodies
  pub reported : r.reported ≡ nobodies
  pub accepted_kept : a' ≡ a
  pub report_kept : o' ≡ o

-- the report's bytes, of the buffer afterwards
abbrev pub rows : List ℕ → List ℕ → List ℕ
rows s o' = take (row_width * count s) o'

-- with number 0: the position after the last step, the accepted steps in their buffer, the answer of the report on them, and the holders,
-- "read after the last step, both from the position and from the report"
pub record Exact (s u : List ℕ) (bs : List FourBytes) (a o : List ℕ) (r : Outcome) (a' o' : List ℕ) : Type 0 where
  pub position : r.position ≡ position_of s u bs
  pub accepted_written : a' ≡ over (accepted_bytes s u bs) a
  pub report : r.report ≡ (report_of s u bs o).refusal
  pub report_written : o' ≡ (report_of s u bs o).buffer
  -- it is 0 unless the accepted steps are more than a journal may have
  pub report_answers : length (accepted_bytes s u bs) ≤ 65536 → r.report ≡ accepted
  pub held : r.held ≡ holders s (holder_in s r.position)
  pub reported : r.reported ≡ reported_holders r.report s (rows s o')

-- the plain ledger accepts what the accepted kind 6 steps confirm, and its holders and payouts are those of the position that came back
-- and, "where that report answers 0", of the report that was written
pub record Agreed (s u : List ℕ) (bs : List FourBytes) (r : Outcome) (a' o' : List ℕ) : Type 0 where
  pub accepts : (books_of s u bs).accepts ≡ true
  pub ordered : in_order (entries_of s u bs) ≡ true
  pub position : Same s (holder_in s r.position) (books_of s u bs).kept
  pub report : r.report ≡ accepted → Same s (reported_holder s (rows s o')) (books_of s u bs).kept
  -- the steps that were written confirm the same entries as the list
  pub written : entries_of s u (journal_steps (take (length (accepted_bytes s u bs)) a')) ≡ entries_of s u bs

-- the two secrets are not both known beyond their owners in the position that came back, and no party is paid from both coins, by that
-- position, by the plain ledger and by the report that was written
pub record Guarded (s u : List ℕ) (bs : List FourBytes) (r : Outcome) (o' : List ℕ) : Type 0 where
  pub secrets : (known s r.position secret_alice && known s r.position secret_bob) ≡ false
  pub position : PaidOnce s (holder_in s r.position)
  pub ledger : PaidOnce s (ledger_holder (books_of s u bs).kept)
  pub report : r.report ≡ accepted → PaidOnce s (reported_holder s (rows s o'))

-- the promise, for any bytes j: each whole group of four is a step
pub record Demand3 (s u j a o : List ℕ) (r : Outcome) (a' o' : List ℕ) : Type 0 where
  pub number : r.number ≡ history_number s u (journal_steps j) a o
  pub unplayed : (r.number ≡ accepted → ⊥) → Unplayed s a o r a' o'
  pub exact : r.number ≡ accepted → Exact s u (journal_steps j) a o r a' o'
  pub agreed : r.number ≡ accepted → Agreed s u (journal_steps j) r a' o'
  -- "careful"
  pub guarded : r.number ≡ accepted → conduct u ≡ 2 → Guarded s u (journal_steps j) r o'
