-- Slip 8, "Check another firm's block list": "what was confirmed, without steps", as bytes, and what the check of one answers.
-- Assumes nothing.
use Rattle.std.specs.Prelude.{ℕ, ◌%◌, Bool, ◌&&◌, List, [], ◌∷◌, ◌++◌, eqb, ltb, leb, length}
use Rattle.laws.specs.Failing.{first_failing}
use Rattle.laws.specs.Gather.{every}
use Rattle.laws.specs.Little.{bytes_of, number_at}
use Rattle.sheet.specs.Field.{count}
use Rattle.sheet.specs.Check.{sheet_tests}
use Rattle.sheet.specs.Setup.{per_day, setup_tests}
use Rattle.ledger.specs.Entry.{Entry, in_order}
use Rattle.ledger.specs.Ledger.{ledger}
use Rattle.steps.specs.Decode.{shares_to}
use Rattle.position.specs.Tests.{block_limit}
use Rattle.sheet.specs.Refusal.{blocks_field, blocks_order, blocks_ledger}

-- "A list has 4 bytes for each entry: transaction, destination, block (2 bytes)."
unfoldable pub list_entries : List ℕ → List Entry
list_entries [] = []
list_entries (t ∷ []) = []
list_entries (t ∷ d ∷ []) = []
list_entries (t ∷ d ∷ b ∷ []) = []
list_entries (t ∷ d ∷ b ∷ c ∷ rest) = record { transaction = t; destination = d; block = number_at 2 (b ∷ c ∷ []) 0 } ∷ list_entries rest

-- the four bytes of an entry
unfoldable pub entry_bytes : Entry → List ℕ
entry_bytes e = e.transaction ∷ e.destination ∷ bytes_of 2 e.block

-- the list that these entries are
unfoldable pub list_bytes : List Entry → List ℕ
list_bytes [] = []
list_bytes (e ∷ l) = entry_bytes e ++ list_bytes l

-- "a transaction isn't in the sheet, or a destination isn't 2 for a contract transaction or a payee for a paying one"
unfoldable pub entry_named : List ℕ → Entry → Bool
entry_named s e = ltb e.transaction (count s) && shares_to s e.transaction e.destination

-- "29 when the length isn't a multiple of 4, or .."
unfoldable pub fields_named : List ℕ → List ℕ → Bool
fields_named s list = eqb (length list % 4) 0 && every (entry_named s) (list_entries list)

-- "a block is outside 1 to 10,000"
unfoldable pub block_within : Entry → Bool
block_within e = leb 1 e.block && leb e.block block_limit

-- "30 when entries don't rise by block and then transaction, or .."
unfoldable pub entries_rise : List Entry → Bool
entries_rise l = in_order l && every block_within l

-- each over the whole list: "tested after 29", "tested last"
unfoldable pub list_tests : List ℕ → List ℕ → List ℕ → List (ℕ × Bool)
list_tests s u list =
    (blocks_field, fields_named s list)
    ∷ (blocks_order, entries_rise (list_entries list))
    ∷ (blocks_ledger, (ledger s (per_day u) (list_entries list)).accepts)
    ∷ []

-- "It comes with a sheet and a setup, which are tested first."
unfoldable pub blocks_tests : List ℕ → List ℕ → List ℕ → List (ℕ × Bool)
blocks_tests s u list = sheet_tests s ++ (setup_tests s u ++ list_tests s u list)

-- the number that the call answers
unfoldable pub blocks_refusal : List ℕ → List ℕ → List ℕ → ℕ
blocks_refusal s u list = first_failing (blocks_tests s u list)
