-- What block lists get, computed: one table over a small sheet at 2 blocks per day; and the slip's own words of two of the lists.
-- Assumes nothing.
use Rattle.laws.proofs.Prelude.{ℕ, ◌≡◌, refl, Bool, true, List, [], ◌∷◌, ◌++◌, eqb, arith, every}
use Rattle.position.proofs.Rules.{sheet_refusal, setup_refusal}
use Rattle.position.proofs.Opened.{opened}
use Rattle.call_blocks.specs.BlockList.{list_entries, entry_named, fields_named, block_within, entries_rise, list_tests, blocks_tests, blocks_refusal}
use Rattle.claim_blocks.specs.Words.{AllRight}
use Rattle.claim_blocks.proofs.Theorems.{block_lists}

-- two coins: 0 and 1 open them; 2 pays Alice and 3 Bob, rivals below 0; 4 spends 1, and 5 pays either below it
abbrev sheet : List ℕ
sheet =
    6 ∷ 1 ∷ 0 ∷ 1 ∷ 1
    ∷ 255 ∷ 0 ∷ 1 ∷ 0
    ∷ 255 ∷ 0 ∷ 1 ∷ 0
    ∷ 0 ∷ 1 ∷ 1 ∷ 0
    ∷ 0 ∷ 2 ∷ 1 ∷ 0
    ∷ 1 ∷ 0 ∷ 1 ∷ 0
    ∷ 4 ∷ 3 ∷ 1 ∷ 0
    -- locks: 3 absolute, 2 days; 4 since the parent, 1 day; the others none
    ∷ 0 ∷ 0 ∷ 0 ∷ 0 ∷ 0 ∷ 0 ∷ 1 ∷ 2 ∷ 2 ∷ 1 ∷ 0 ∷ 0
    ∷ []

abbrev setup : List ℕ
setup = 2 ∷ 0 ∷ 0 ∷ 0 ∷ []

-- "transaction, destination, block (2 bytes)"
abbrev at : ℕ → ℕ → ℕ → ℕ → List ℕ
at t destination low high = t ∷ destination ∷ low ∷ high ∷ []

pub record Example : Type 0 where
  pub list : List ℕ
  pub number : ℕ

unfoldable pub holds : Example → Bool
holds x = eqb (blocks_refusal sheet setup x.list) x.number

abbrev gets : ℕ → List ℕ → Example
gets number list = record { list = list; number = number }

unfoldable pub examples : List Example
examples =
    gets 0 []
    ∷ gets 0 (at 0 2 1 0 ++ at 1 2 1 0 ++ at 2 0 1 0 ++ at 4 2 4 0 ++ at 5 1 4 0)
    -- "29 when the length isn't a multiple of 4, or a transaction isn't in the sheet, or a destination isn't .."
    ∷ gets 29 (0 ∷ 2 ∷ 1 ∷ [])
    ∷ gets 29 (at 6 0 1 0)
    ∷ gets 29 (at 0 0 1 0)
    ∷ gets 29 (at 0 2 1 0 ++ at 2 1 2 0)
    ∷ gets 29 (at 0 2 1 0 ++ at 2 2 2 0)
    ∷ gets 0 (at 0 2 1 0 ++ at 2 0 2 0)
    -- "30 when entries don't rise by block and then transaction, or a block is outside 1 to 10,000"
    ∷ gets 30 (at 0 2 2 0 ++ at 1 2 1 0)
    ∷ gets 30 (at 1 2 1 0 ++ at 0 2 1 0)
    ∷ gets 30 (at 0 2 1 0 ++ at 0 2 1 0)
    ∷ gets 30 (at 0 2 0 0)
    ∷ gets 0 (at 0 2 16 39)
    ∷ gets 30 (at 0 2 17 39)
    -- "tested after 29", over the whole list
    ∷ gets 29 (at 0 2 0 0 ++ at 6 0 0 0)
    -- "31 when the ledger refuses the list; tested last": no parent; the same again; a rival
    ∷ gets 31 (at 2 0 1 0)
    ∷ gets 31 (at 0 2 1 0 ++ at 0 2 2 0)
    ∷ gets 31 (at 0 2 1 0 ++ at 2 0 1 0 ++ at 3 1 9 0)
    ∷ gets 30 (at 2 0 2 0 ++ at 2 0 1 0)
    -- "blocks before the entry's block count as mined": 4 blocks
    ∷ gets 31 (at 0 2 1 0 ++ at 3 1 4 0)
    ∷ gets 0 (at 0 2 1 0 ++ at 3 1 5 0)
    ∷ gets 0 (at 0 2 5 0 ++ at 3 1 5 0)
    -- "in the same block unless the lock is since the parent"
    ∷ gets 31 (at 1 2 3 0 ++ at 4 2 3 0)
    ∷ gets 31 (at 1 2 3 0 ++ at 4 2 5 0)
    ∷ gets 0 (at 1 2 3 0 ++ at 4 2 6 0 ++ at 5 0 6 0)
    ∷ []

pub sheet_passes : sheet_refusal sheet ≡ 0
unfolding opened
sheet_passes = refl

pub setup_passes : setup_refusal sheet setup ≡ 0
unfolding opened
setup_passes = refl

-- the one fact
pub all_hold : every holds examples ≡ true
unfolding opened list_entries entry_named fields_named block_within entries_rise list_tests blocks_tests blocks_refusal holds examples
all_hold = refl

-- the slip's own words hold of a payout in its parent's own block, past its lock, and not of one block earlier
pub words_hold : AllRight sheet 2 (list_entries (at 0 2 5 0 ++ at 3 1 5 0))
unfolding opened list_entries entry_named fields_named block_within entries_rise list_tests blocks_tests blocks_refusal
words_hold = ((block_lists sheet setup sheet_passes setup_passes).judged (at 0 2 5 0 ++ at 3 1 5 0) refl refl).by_words refl

pub words_fail : AllRight sheet 2 (list_entries (at 0 2 4 0 ++ at 3 1 4 0)) → ⊥
unfolding opened list_entries entry_named fields_named block_within entries_rise list_tests blocks_tests blocks_refusal
words_fail a =
    let z : ◌≡◌ {A = ℕ} 31 0 = ((block_lists sheet setup sheet_passes setup_passes).judged (at 0 2 4 0 ++ at 3 1 4 0) refl refl).words_accepted a in
    omega arith
