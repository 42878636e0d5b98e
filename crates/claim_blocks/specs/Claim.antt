-- Slip 8: what the answer to a block list comes to. Each claim is about every checked sheet with a setup that passes for it.
-- Assumes nothing.
use Rattle.std.specs.Prelude.{ℕ, ◌%◌, ◌≡◌, true, List, ◌++◌, eqb, length}
use Rattle.sheet.specs.Refusal.{accepted}
use Rattle.sheet.specs.Check.{sheet_refusal}
use Rattle.sheet.specs.Setup.{per_day, setup_refusal}
use Rattle.ledger.specs.Ledger.{ledger}
use Rattle.position.specs.Play.{FourBytes}
use Rattle.claim_ledger.specs.Claim.{entries_of}
use Rattle.call_blocks.specs.BlockList.{list_entries, list_bytes, fields_named, entries_rise, blocks_refusal}
use Rattle.claim_blocks.specs.Words.{AllRight}

-- of a list that passes 29 and 30
pub record Judged (s u list : List ℕ) : Type 0 where
  -- "Accept it exactly when the plain ledger does."
  pub by_ledger : eqb (blocks_refusal s u list) accepted ≡ (ledger s (per_day u) (list_entries list)).accepts
  -- and exactly when the slip's own words hold of every entry
  pub by_words : blocks_refusal s u list ≡ accepted → AllRight s (per_day u) (list_entries list)
  pub words_accepted : AllRight s (per_day u) (list_entries list) → blocks_refusal s u list ≡ accepted

pub record BlockLists (s u : List ℕ) : Type 0 where
  pub judged : (list : List ℕ) → fields_named s list ≡ true → entries_rise (list_entries list) ≡ true → Judged s u list
  -- a list that gets 0 passes 29 and 30
  pub tested : (list : List ℕ) → blocks_refusal s u list ≡ accepted → (fields_named s list ≡ true) × (entries_rise (list_entries list) ≡ true)
  -- "The confirmed list of every accepted journal must be accepted": of every list of steps, refused ones among them
  pub confirmed : (bs : List FourBytes) → blocks_refusal s u (list_bytes (entries_of s u bs)) ≡ accepted
  -- what is accepted of a list's front, of whole entries, does not wait for the rest
  pub front : (a b : List ℕ) → length a % 4 ≡ 0 → blocks_refusal s u (a ++ b) ≡ accepted → blocks_refusal s u a ≡ accepted

abbrev pub BlockListsJudged : Type 0
BlockListsJudged = (s u : List ℕ) → sheet_refusal s ≡ accepted → setup_refusal s u ≡ accepted → BlockLists s u
