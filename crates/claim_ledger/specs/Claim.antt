-- Demand 3, in document 01's words: the engine and the plain ledger agree, a single claim on the whole list.
-- Assumes nothing.
use Rattle.std.specs.Prelude.{ℕ, ◌*◌, ◌≡◌, true, List, take}
use Rattle.sheet.specs.Refusal.{accepted}
use Rattle.sheet.specs.Field.{count}
use Rattle.sheet.specs.Check.{sheet_refusal}
use Rattle.sheet.specs.Setup.{per_day, setup_refusal}
use Rattle.ledger.specs.Entry.{Entry, in_order}
use Rattle.ledger.specs.Ledger.{Kept, Books, ledger, ledger_holder}
use Rattle.position.specs.declared.Position.{Position}
use Rattle.position.specs.Position.{start}
use Rattle.position.specs.Play.{FourBytes, journal_bytes, play, accepted_of, confirmed_entries}
use Rattle.readings.specs.Holder.{is_payout, is_payout_to}
use Rattle.readings.specs.Reported.{row_width, reported_holder}
use Rattle.position.specs.Holder.{holder_in}
use Rattle.position.specs.Answers.{Written}
use Rattle.dated.specs.Report.{report_answer}

-- "entries .. in demand 3 those that the accepted kind 6 steps confirm": of a list played from the empty journal's position
abbrev pub entries_of : List ℕ → List ℕ → List FourBytes → List Entry
entries_of s u bs = confirmed_entries s u bs (start s)

-- "The plain ledger .. knows the sheet and the blocks per day, takes entries"
abbrev pub books_of : List ℕ → List ℕ → List FourBytes → Books
books_of s u bs = ledger s (per_day u) (entries_of s u bs)

-- "the engine's holders are read after the last step, both from the position .."
abbrev pub position_of : List ℕ → List ℕ → List FourBytes → Position
position_of s u bs = play s u bs (start s)

-- ".. and from the report of the accepted steps", into some buffer
abbrev pub report_of : List ℕ → List ℕ → List FourBytes → List ℕ → Written
report_of s u bs out = report_answer s u (journal_bytes (accepted_of s u bs (start s))) out

-- "Report writes .. bytes for each transaction", with Slip 9's count 18: those, of the buffer afterwards
abbrev pub reported_bytes : List ℕ → List ℕ → List FourBytes → List ℕ → List ℕ
reported_bytes s u bs out = take (row_width * count s) (report_of s u bs out).buffer

-- a reading of the engine's holders is the ledger's, for every coin: any number may be asked for, an opening's among them
pub record Same (s : List ℕ) (held : ℕ → ℕ) (kept : Kept) : Type 0 where
  pub holders : (coin : ℕ) → held coin ≡ ledger_holder kept coin
  pub payouts : (coin : ℕ) → is_payout s held coin ≡ is_payout s (ledger_holder kept) coin
  pub payouts_to : (party coin : ℕ) → is_payout_to s held party coin ≡ is_payout_to s (ledger_holder kept) party coin

-- what is claimed of a list of four-byte groups, malformed and refused ones included
pub record Agrees (s u : List ℕ) (bs : List FourBytes) : Type 0 where
  -- "else the list is refused": it is not
  pub accepts : (books_of s u bs).accepts ≡ true
  -- "by block and then number"
  pub ordered : in_order (entries_of s u bs) ≡ true
  pub position : Same s (holder_in s (position_of s u bs)) (books_of s u bs).kept
  -- "where that report answers 0"
  pub report : (out : List ℕ) → (report_of s u bs out).refusal ≡ accepted → Same s (reported_holder s (reported_bytes s u bs out)) (books_of s u bs).kept

-- for every sheet and setup whose checks give 0, and every list
abbrev pub Agreement : Type 0
Agreement = (s u : List ℕ) → sheet_refusal s ≡ accepted → setup_refusal s u ≡ accepted → (bs : List FourBytes) → Agrees s u bs
