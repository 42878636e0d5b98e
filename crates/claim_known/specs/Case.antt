-- The kinds of row of the table of known positions, and what each says of the rules.
-- Assumes nothing.
use Rattle.std.specs.Prelude.{ℕ, ◌*◌, Bool, true, false, ◌&&◌, ◌||◌, List, [], ◌∷◌, ◌++◌, eqb, length, get_or}
use Rattle.std.specs.Bool.{beq}
use Rattle.laws.specs.Booleans.{pick}
use Rattle.laws.specs.Below.{all_below}
use Rattle.laws.specs.Same.{same}
use Rattle.sheet.specs.Refusal.{accepted}
use Rattle.sheet.specs.Field.{count}
use Rattle.sheet.specs.Setup.{per_day}
use Rattle.sheet.specs.LockHeight.{lock_height}
use Rattle.sheet.specs.Saswap.{saswap}
use Rattle.slots.specs.Conflict.{no_conflict}
use Rattle.slots.specs.Deadline.{deadline}
use Rattle.slots.specs.Signatures.{signed}
use Rattle.position.specs.declared.Position.{Position}
use Rattle.position.specs.declared.Ran.{Ran}
use Rattle.steps.specs.Names.{lock_a, revoke}
use Rattle.position.specs.Position.{is_confirmed, sent, in_block, shared, sender_has}
use Rattle.position.specs.Play.{run}
use Rattle.position.specs.Open.{list_bytes}
use Rattle.position.specs.Report.{status}
use Rattle.position.specs.Printed.{printed}

pub data Case : Type 0 where
  -- on the SASwap sheet for these blocks per day, with revoke in this block (0: unconfirmed), this transaction's lock height
  lock_is : (per_day revoked t height : ℕ) → Case
  -- the same, this transaction's deadline
  deadline_is : (per_day revoked t height : ℕ) → Case
  -- the SASwap sheet's length in bytes
  sheet_length : (per_day bytes : ℕ) → Case
  -- on the SASwap sheet, after this journal: every status is 0
  statuses_zero : (setup journal : List ℕ) → Case
  -- on the SASwap sheet, after this journal: this many blocks, lock_A confirmed, signatures at hand for this send, no rival in pool, block or confirmed; the
  -- send gets this number
  send_gets : (setup journal : List ℕ) (blocks : ℕ) (send : List ℕ) (number : ℕ) → Case
  -- the same, but a signature is missing for this send
  unsigned_gets : (setup journal : List ℕ) (blocks : ℕ) (send : List ℕ) (number : ℕ) → Case
  -- on the SASwap sheet, after this journal: the mask shared for this transaction and destination
  shared_is : (setup journal : List ℕ) (t destination mask : ℕ) → Case
  -- after this journal: the status of this transaction
  status_is : (sheet setup journal : List ℕ) (t is : ℕ) → Case
  -- after this journal: this step gets this number
  step_gets : (sheet setup journal step : List ℕ) (number : ℕ) → Case
  -- after this journal: the list of open steps, 4 bytes each
  opens : (sheet setup journal steps : List ℕ) → Case
  -- the lines that swapreport prints
  prints : (sheet setup journal : List ℕ) (lines : List (List ℕ)) → Case

-- each transaction's block, where revoke alone may have one
unfoldable pub revoked_in : ℕ → ℕ → ℕ
revoked_in b t = pick (eqb t revoke) b 0

-- the SASwap sheet for a setup
unfoldable pub swap_sheet : List ℕ → List ℕ
swap_sheet u = saswap (per_day u)

-- the journal is accepted whole
unfoldable pub passes : Ran → List ℕ → Bool
passes r j = eqb r.refusal accepted && eqb (r.accepted * 4) (length j)

-- P6 and P7's place for a send by this party of this transaction to this destination, with signatures at hand or without
unfoldable pub send_place : Bool → List ℕ → Position → ℕ → ℕ → ℕ → Bool
send_place at_hand s p party t destination =
    is_confirmed p lock_a
    && (beq (signed s (sender_has s p party t destination) t) at_hand && no_conflict s (λ k. sent p k || in_block p k) t)

-- in that place the send gets this number
unfoldable pub gets_there : Bool → List ℕ → List ℕ → ℕ → List ℕ → ℕ → Bool
gets_there at_hand u j blocks send number =
    let r = run (swap_sheet u) u j in
    passes r j
    && (eqb r.position.mined blocks
    && (send_place at_hand (swap_sheet u) r.position (get_or send 1 0) (get_or send 2 0) (get_or send 3 0)
    && eqb (run (swap_sheet u) u (j ++ send)).refusal number))

-- the same lines, each with the same numbers
unfoldable pub same_lines : List (List ℕ) → List (List ℕ) → Bool
same_lines [] [] = true
same_lines [] (b ∷ bs) = false
same_lines (a ∷ rest) [] = false
same_lines (a ∷ rest) (b ∷ bs) = same a b && same_lines rest bs

-- what a row says
unfoldable pub holds : Case → Bool
holds (lock_is d revoked t height) = eqb (lock_height (saswap d) d (revoked_in revoked) t) height
holds (deadline_is d revoked t height) = eqb (deadline (saswap d) d (revoked_in revoked) t) height
holds (sheet_length d bytes) = eqb (length (saswap d)) bytes
holds (statuses_zero u j) =
    let r = run (swap_sheet u) u j in
    passes r j && all_below (count (swap_sheet u)) (λ t. eqb (status (swap_sheet u) r.position t) 0)
holds (send_gets u j blocks send number) = gets_there true u j blocks send number
holds (unsigned_gets u j blocks send number) = gets_there false u j blocks send number
holds (shared_is u j t destination mask) =
    let r = run (swap_sheet u) u j in
    passes r j && eqb (shared r.position t destination) mask
holds (status_is s u j t is) =
    let r = run s u j in
    passes r j && eqb (status s r.position t) is
holds (step_gets s u j step number) = passes (run s u j) j && eqb (run s u (j ++ step)).refusal number
holds (opens s u j steps) =
    let r = run s u j in
    passes r j && same (list_bytes s u r.position) steps
holds (prints s u j lines) = same_lines (printed s u j) lines
