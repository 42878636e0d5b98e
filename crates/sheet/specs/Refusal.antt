-- Document 01's refusal table, and document 02's further ones: a name for each number. `src/refusal.rt` and `include/swap.h` have the same names.
-- Assumes nothing.
use Rattle.std.specs.Prelude.{ℕ, Bool, Result, Ok, Err}
use Rattle.laws.specs.Booleans.{pick}
use Rattle.sheet.specs.declared.refusal.Refusal.{Refusal}
use Rattle.sheet.specs.declared.refusal.Refusal.TheVariants.{SheetShort, SheetCount, SheetSignatures, SheetLength, SheetParent, SheetEntry, SheetLock, SheetChildren, SetupBlocks, SetupConduct, SetupParties, StepField, StepStealth, StepConduct, StepConflict, StepParent, StepSignatures, StepLock, StepDeadline, StepPool, StepBumpOwed, StepNotOwed, StepEmptyBlock, StepBlocks, JournalLength, BufferShort, TimelockRelative, TimelockAbsolute, BundleLayout, BlocksField, BlocksOrder, BlocksLedger, EndingField, EndingImpossible, CountStale, JournalLong, NoneRefused}

-- "(0 if none)"
abbrev pub accepted : ℕ
accepted = 0

-- "sheet under 5 bytes"
abbrev pub sheet_short : ℕ
sheet_short = 1

-- "n outside 1 to 32"
abbrev pub sheet_count : ℕ
sheet_count = 2

-- "s outside 1 to 8, or a head mask beyond s"
abbrev pub sheet_signatures : ℕ
sheet_signatures = 3

-- "length not 5 + 6n"
abbrev pub sheet_length : ℕ
sheet_length = 4

-- "parent neither 255 nor lower"
abbrev pub sheet_parent : ℕ
sheet_parent = 5

-- "payees, needs (zero too) or veil out of range"
abbrev pub sheet_entry : ℕ
sheet_entry = 6

-- "lock pair out of range, or type 2 without parent"
abbrev pub sheet_lock : ℕ
sheet_lock = 7

-- "payees 0 without child, or payees with child"
abbrev pub sheet_children : ℕ
sheet_children = 8

-- "setup not 4 bytes, or blocks per day"
abbrev pub setup_blocks : ℕ
setup_blocks = 9

-- "conduct or stealth, or sheet unfit for it"
abbrev pub setup_conduct : ℕ
setup_conduct = 10

-- Document 02, Slip 10: "32 when a three-party sheet comes with conduct 1 or 2"
abbrev pub setup_parties : ℕ
setup_parties = 32

-- "step field out of range for its kind"
abbrev pub step_field : ℕ
step_field = 11

-- "kind 4, stealth 0"
abbrev pub step_stealth : ℕ
step_stealth = 12

-- "conduct, or kind 1 or 2 unmet"
abbrev pub step_conduct : ℕ
step_conduct = 13

-- "rival": a conflicting transaction stands in the way
abbrev pub step_conflict : ℕ
step_conflict = 14

-- "parent"
abbrev pub step_parent : ℕ
step_parent = 15

-- "signatures"
abbrev pub step_signatures : ℕ
step_signatures = 16

-- "lock"
abbrev pub step_lock : ℕ
step_lock = 17

-- "deadline"
abbrev pub step_deadline : ℕ
step_deadline = 18

-- "kind 5, not in pool"
abbrev pub step_pool : ℕ
step_pool = 19

-- "kind 5 or 6, a bump owed"
abbrev pub step_bump_owed : ℕ
step_bump_owed = 20

-- "kind 7, not owed"
abbrev pub step_not_owed : ℕ
step_not_owed = 21

-- "empty block too soon"
abbrev pub step_empty_block : ℕ
step_empty_block = 22

-- "10,000 blocks mined"
abbrev pub step_blocks : ℕ
step_blocks = 23

-- "journal not a multiple of 4, or over 65,536 bytes"
abbrev pub journal_length : ℕ
journal_length = 24

-- "buffer too short for list or report"
abbrev pub buffer_short : ℕ
buffer_short = 25

-- "when a since-parent value is above 65,535"
abbrev pub timelock_relative : ℕ
timelock_relative = 26

-- "when base plus an absolute lock's height reaches 500,000,000"
abbrev pub timelock_absolute : ℕ
timelock_absolute = 27

-- "the bundle is empty or too short for its arrays, the count is above 64, or the lengths don't add up to the bytes that follow"
abbrev pub bundle_layout : ℕ
bundle_layout = 28

-- "the length isn't a multiple of 4, or a transaction isn't in the sheet, or a destination isn't 2 for a contract transaction or a payee for a paying one"
abbrev pub blocks_field : ℕ
blocks_field = 29

-- "entries don't rise by block and then transaction, or a block is outside 1 to 10,000"
abbrev pub blocks_order : ℕ
blocks_order = 30

-- "the ledger refuses the list"
abbrev pub blocks_ledger : ℕ
blocks_ledger = 31

-- "the mask names a number beyond the sheet or a contract transaction, or a destination isn't a payee, or their list isn't 4 bytes for each bit set"
abbrev pub ending_field : ℕ
ending_field = 33

-- "no accepted list confirms all of them so"
abbrev pub ending_impossible : ℕ
ending_impossible = 34

-- "35 when the count isn't the journal's"
abbrev pub count_stale : ℕ
count_stale = 35

-- "36 when the journal has over 1,024 steps"
abbrev pub journal_long : ℕ
journal_long = 36

-- "37 when no step of the journal is refused"
abbrev pub none_refused : ℕ
none_refused = 37

-- the number of each
abbrev pub number : Refusal → ℕ
number SheetShort = sheet_short
number SheetCount = sheet_count
number SheetSignatures = sheet_signatures
number SheetLength = sheet_length
number SheetParent = sheet_parent
number SheetEntry = sheet_entry
number SheetLock = sheet_lock
number SheetChildren = sheet_children
number SetupBlocks = setup_blocks
number SetupConduct = setup_conduct
number SetupParties = setup_parties
number StepField = step_field
number StepStealth = step_stealth
number StepConduct = step_conduct
number StepConflict = step_conflict
number StepParent = step_parent
number StepSignatures = step_signatures
number StepLock = step_lock
number StepDeadline = step_deadline
number StepPool = step_pool
number StepBumpOwed = step_bump_owed
number StepNotOwed = step_not_owed
number StepEmptyBlock = step_empty_block
number StepBlocks = step_blocks
number JournalLength = journal_length
number BufferShort = buffer_short
number TimelockRelative = timelock_relative
number TimelockAbsolute = timelock_absolute
number BundleLayout = bundle_layout
number BlocksField = blocks_field
number BlocksOrder = blocks_order
number BlocksLedger = blocks_ledger
number EndingField = ending_field
number EndingImpossible = ending_impossible
number CountStale = count_stale
number JournalLong = journal_long
number NoneRefused = none_refused

-- what a test or a call answers: "the number (0 if none)"
abbrev pub Answer : Type 0
Answer = Result (Unit {0}) Refusal

abbrev pub refused : Answer → ℕ
refused (Ok done) = accepted
refused (Err refusal) = number refusal

-- a test alone, with the refusal where it fails
abbrev pub required : Bool → Refusal → Answer
required holds refusal = pick holds (Ok tt) (Err refusal)
