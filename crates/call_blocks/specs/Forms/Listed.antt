-- An entry as the code has it, and what is kept for each coin as an array of these.
-- Assumes nothing.
use Rattle.std.specs.Prelude.{ℕ, ◌+◌, List, eqb, get_or}
use Rattle.std.proofs.Math.Option.{Option, none, some}
use Rattle.laws.specs.Booleans.{pick}
use Rattle.laws.specs.Little.{number_at}
use Rattle.sheet.specs.Field.{byte}
use Rattle.ledger.specs.Entry.{Entry}
use Rattle.ledger.specs.Ledger.{Kept}
use Rattle.call_blocks.specs.declared.Listed.{Listed}

-- the entry that starts at byte i of a list
unfoldable pub listed_at : List ℕ → ℕ → Listed
listed_at list i =
    record { transaction = byte list i; destination = byte list (i + 1); block = number_at 2 list (i + 2) }

-- none: no entry stands in block 0
abbrev pub nothing : Listed
nothing = record { transaction = 0; destination = 0; block = 0 }

abbrev pub entry_of : Listed → Entry
entry_of x = record { transaction = x.transaction; destination = x.destination; block = x.block }

-- what an element of the array says is kept
unfoldable pub last_of : Listed → Option Entry
last_of x = pick (eqb x.block 0) none (some (entry_of x))

-- what the array keeps, by coin
unfoldable pub kept_in : List Listed → Kept
kept_in l coin = last_of (get_or l coin nothing)
