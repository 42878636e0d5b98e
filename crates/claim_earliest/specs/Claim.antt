-- Slip 11: what the answer comes to. Each claim is about every checked sheet with a setup that passes for it, and every mask and
-- destinations.
-- Assumes nothing.
use Rattle.std.specs.Prelude.{ℕ, ◌*◌, ◌≤◌, ◌<◌, ◌≡◌, true, ◌&&◌, List, [], eqb, ltb, length, take, drop}
use Rattle.std.proofs.Math.Option.{some}
use Rattle.std.proofs.Math.ListN.{get_elem?}
use Rattle.laws.specs.Booleans.{pick}
use Rattle.laws.specs.Mask.{bit}
use Rattle.sheet.specs.Refusal.{accepted, buffer_short, ending_impossible}
use Rattle.sheet.specs.Field.{count}
use Rattle.sheet.specs.Check.{sheet_refusal}
use Rattle.sheet.specs.Setup.{per_day, setup_refusal}
use Rattle.ledger.specs.Entry.{Entry}
use Rattle.ledger.specs.Coin.{coin_of}
use Rattle.position.specs.Tests.{block_limit}
use Rattle.call_blocks.specs.BlockList.{list_entries, list_bytes, blocks_refusal}
use Rattle.endings.specs.Earliest.{earliest}
use Rattle.endings.specs.Plan.{planned}
use Rattle.endings.specs.Ending.{destination_of, ending_right}
use Rattle.call_earliest.specs.Answer.{earliest_refusal, earliest_list, earliest_answer}
use Rattle.claim_earliest.specs.Words.{ConfirmsTo}

-- of an ending that is not refused
pub record Written (s u : List ℕ) (mask : ℕ) (dests : List ℕ) : Type 0 where
  -- the list written is accepted as a block list
  pub taken : blocks_refusal s u (list_bytes (earliest_list s u mask dests)) ≡ accepted
  -- "the block list that confirms them", each to its destination
  pub confirms : ConfirmsTo s mask (destination_of mask dests) (earliest_list s u mask dests)
  -- "them and their ancestors, each at its earliest block": no other, and each of these
  pub earliest_each : (i : ℕ) (e : Entry) → get_elem? (earliest_list s u mask dests) i ≡ some e → (e.block ≡ earliest s (per_day u) e.transaction) × (planned s mask e.transaction ≡ true)
  pub all_there : (t : ℕ) → t < count s → planned s mask t ≡ true → (i : ℕ) × (e : Entry) × (get_elem? (earliest_list s u mask dests) i ≡ some e) × (e.transaction ≡ t)

-- an accepted list that confirms the ending to these destinations
pub record Way (s u : List ℕ) (mask : ℕ) (dests : List ℕ) : Type 0 where
  pub list : List ℕ
  pub taken : blocks_refusal s u list ≡ accepted
  pub confirms : ConfirmsTo s mask (destination_of mask dests) (list_entries list)

-- why an ending is impossible: two of the mask are of one coin, or an earliest block is beyond the last
pub data Cause (s : List ℕ) (per_day mask : ℕ) : Type 0 where
  one_coin : (x y : ℕ) → x < count s → y < count s → bit mask x ≡ true → bit mask y ≡ true → (x ≡ y → ⊥) → coin_of s x ≡ coin_of s y → Cause s per_day mask
  too_late : (t : ℕ) → t < count s → planned s mask t ≡ true → block_limit < earliest s per_day t → Cause s per_day mask

pub record Endings (s u : List ℕ) : Type 0 where
  -- "No list accepted there may confirm one of them earlier.": no entry of any accepted list is earlier
  pub none_earlier : (list : List ℕ) → blocks_refusal s u list ≡ accepted → (j : ℕ) (f : Entry) → get_elem? (list_entries list) j ≡ some f
      → earliest s (per_day u) f.transaction ≤ f.block
  pub written : (mask : ℕ) (dests : List ℕ) → earliest_refusal s u mask dests ≡ accepted → Written s u mask dests
  -- "34 when no accepted list confirms all of them so; tested after 33 and given in no other case"
  pub none_confirms : (mask : ℕ) (dests : List ℕ) → earliest_refusal s u mask dests ≡ ending_impossible → Way s u mask dests → ⊥
  pub some_confirms : (mask : ℕ) (dests : List ℕ) → ending_right s mask dests ≡ true → (earliest_refusal s u mask dests ≡ ending_impossible → ⊥) → Way s u mask dests
  pub cause : (mask : ℕ) (dests : List ℕ) → earliest_refusal s u mask dests ≡ ending_impossible → Cause s (per_day u) mask
  -- "An empty mask gives an empty list."
  pub empty_mask : (earliest_refusal s u 0 [] ≡ accepted) × (earliest_list s u 0 [] ≡ [])

abbrev pub EarliestEndings : Type 0
EarliestEndings = (s u : List ℕ) → sheet_refusal s ≡ accepted → setup_refusal s u ≡ accepted → Endings s u

-- The same of what the call leaves where it answers 0: the count is the list's, its entries stand at the front of the buffer, 4 bytes
-- each, and "Bytes after the output keep their values."
pub record Listed (s u : List ℕ) (mask : ℕ) (dests out : List ℕ) (n : ℕ) (buffer : List ℕ) : Type 0 where
  pub unrefused : earliest_refusal s u mask dests ≡ accepted
  pub counted : n ≡ length (earliest_list s u mask dests)
  pub bytes : take (4 * n) buffer ≡ list_bytes (earliest_list s u mask dests)
  pub entries : list_entries (take (4 * n) buffer) ≡ earliest_list s u mask dests
  -- so they are accepted as a block list, and confirm the ending
  pub taken : blocks_refusal s u (take (4 * n) buffer) ≡ accepted
  pub confirms : ConfirmsTo s mask (destination_of mask dests) (list_entries (take (4 * n) buffer))
  pub beyond : drop (4 * n) buffer ≡ drop (4 * n) out
  pub long : length buffer ≡ length out

-- what an answer, a number, a count and a buffer afterwards, is to be
pub record Answered (s u : List ℕ) (mask : ℕ) (dests out : List ℕ) (refusal n : ℕ) (buffer : List ℕ) : Type 0 where
  -- the ending's number, or 25 where that is 0 and the list has no room: "25 is tested last."
  pub number : refusal
      ≡ pick (eqb (earliest_refusal s u mask dests) accepted && ltb (length out) (4 * length (earliest_list s u mask dests))) buffer_short (earliest_refusal s u mask dests)
  pub written : refusal ≡ accepted → Listed s u mask dests out n buffer
  -- "0 when refused", and "a refusal changes no buffer"
  pub refused : (refusal ≡ accepted → ⊥) → (n ≡ 0) × (buffer ≡ out)

-- what the call answers, for every input and buffer
abbrev pub EarliestAnswers : Type 0
EarliestAnswers =
    (s u : List ℕ) (mask : ℕ) (dests out : List ℕ)
    → let answer = earliest_answer s u mask dests out in Answered s u mask dests out answer.refusal answer.count answer.buffer
