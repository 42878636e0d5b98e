-- A position beside the counts of document 02's Slip 9, its steps, and a journal run on it.
-- Assumes nothing.
use Rattle.std.specs.Prelude.{ℕ, ◌+◌, true, false, ◌&&◌, List, [], ◌∷◌, eqb, get_or, replicate}
use Rattle.laws.specs.Booleans.{pick}
use Rattle.laws.specs.Each.{rewrite_first}
use Rattle.laws.specs.Failing.{first_failing}
use Rattle.sheet.specs.Refusal.{accepted}
use Rattle.sheet.specs.Field.{count}
use Rattle.sheet.specs.LockHeight.{never}
use Rattle.position.specs.declared.Position.{Position}
use Rattle.position.specs.declared.Ran.{Ran}
use Rattle.position.specs.Position.{slot_count, start}
use Rattle.position.specs.Play.{FourBytes, journal_steps, step, call_tests}
use Rattle.dated.specs.declared.Dated.{Dated}
use Rattle.dated.specs.Opens.{opens}

-- "The position keeps, for each transaction, the count of blocks mined when it was first open": that of t, "2147483647 where never open"
unfoldable pub count_of : Dated → ℕ → ℕ
count_of d t = get_or d.opened t never

-- the count c of t once the position p is seen: the first one stays
unfoldable pub first_open : List ℕ → List ℕ → Position → ℕ → ℕ → ℕ
first_open s u p t c = pick (eqb c never && opens s u p t) p.mined c

-- the counts of all transactions of the sheet once p is seen
unfoldable pub noted : List ℕ → List ℕ → Position → List ℕ → List ℕ
noted s u p counts = rewrite_first (count s) (first_open s u p) counts

-- the empty journal's position before anything is seen
unfoldable pub unseen : List ℕ → Dated
unseen s = record { position = start s; opened = replicate slot_count never }

-- "seen in the empty journal's position .."
unfoldable pub dated_start : List ℕ → List ℕ → Dated
dated_start s u = record { position = start s; opened = noted s u (start s) (unseen s).opened }

-- a step's number, and position and counts after it
pub record AfterStep : Type 0 where
  pub refusal : ℕ
  pub dated : Dated

-- ".. and in that after each accepted step"; one that is refused changes neither
unfoldable pub dated_step : List ℕ → List ℕ → Dated → FourBytes → AfterStep
dated_step s u d b =
    let r = step s u d.position b in
    elim (eqb r.refusal accepted) [
      | true ↦ record { refusal = accepted; dated = record { position = r.position; opened = noted s u r.position d.opened } }
      | false ↦ record { refusal = r.refusal; dated = d }
    ]

-- "run a journal": its number, the steps accepted before it, and position and counts after these
pub record DatedRun : Type 0 where
  pub refusal : ℕ
  pub accepted : ℕ
  pub dated : Dated

-- the steps of a row up to the first refused one, after c accepted ones
unfoldable pub dated_run_from : List ℕ → List ℕ → List FourBytes → ℕ → Dated → DatedRun
dated_run_from s u [] c d = record { refusal = accepted; accepted = c; dated = d }
dated_run_from s u (b ∷ bs) c d =
    let r = dated_step s u d b in
    elim (eqb r.refusal accepted) [
      | true ↦ dated_run_from s u bs (c + 1) r.dated
      | false ↦ record { refusal = r.refusal; accepted = c; dated = d }
    ]

-- "run a journal", on a position with its counts; of a call that is refused before any step nothing is seen
unfoldable pub dated_run : List ℕ → List ℕ → List ℕ → DatedRun
dated_run s u j =
    let number = first_failing (call_tests s u j) in
    elim (eqb number accepted) [
      | true ↦ dated_run_from s u (journal_steps j) 0 (dated_start s u)
      | false ↦ record { refusal = number; accepted = 0; dated = unseen s }
    ]

-- "Demand 2's position is the model's beside this count": the run without the counts
unfoldable pub forgotten : DatedRun → Ran
forgotten r = record { refusal = r.refusal; accepted = r.accepted; position = r.dated.position }
