-- Slip 8, for a reader: what the answer to a block list comes to.
-- Assumes nothing.
use Rattle.laws.proofs.Prelude.{ℕ, ◌%◌, ◌≡◌, true, List, ◌++◌, eqb, length, eq-eqb, ne_eqb, split, clash, all_weaken}
use Rattle.position.proofs.Rules.{accepted, sheet_refusal, per_day, setup_refusal, none_kept, ledger, start}
use Rattle.sheet.proofs.Theorems.{sheet_checked}
use Rattle.claim_ledger.specs.Claim.{entries_of}
use Rattle.claim_ledger.proofs.SoundSteps.{sound_start}
use Rattle.claim_ledger.proofs.Theorems.{agreement}
use Rattle.call_blocks.specs.BlockList.{list_entries, fields_named, entries_rise, blocks_refusal}
use Rattle.claim_blocks.specs.Words.{AllRight}
use Rattle.claim_blocks.specs.Claim.{Judged, BlockListsJudged}
use Rattle.claim_blocks.proofs.Entering.{right_taken, taken_right}
use Rattle.claim_blocks.proofs.InWords.{fitting_right, right_fitting}
use Rattle.claim_blocks.proofs.Confirmed.{entries_fine}
use Rattle.claim_blocks.proofs.Front.{entries_append, rise_front, named_front, taken_front}
use Rattle.claim_blocks.proofs.Accepted.{named_low, rise_parts, accepted_tests, tests_accepted, fine_list}

module _ (s u : List ℕ) (h : sheet_refusal s ≡ accepted) (k : setup_refusal s u ≡ accepted) where
  module _ (list : List ℕ) (n : fields_named s list ≡ true) (o : entries_rise (list_entries list) ≡ true) where
    -- the ledger takes the list exactly when the slip's own words hold of every entry
    taken_words : (ledger s (per_day u) (list_entries list)).accepts ≡ true → AllRight s (per_day u) (list_entries list)
    taken_words a =
        fitting_right s (per_day u) (sheet_checked s h) (list_entries list) (named_low s list n)
        (all_weaken (λ e w. w.0) (rise_parts (list_entries list) o).1)
        (rise_parts (list_entries list) o).0
        (taken_right s (per_day u) (sheet_checked s h) (list_entries list) (named_low s list n) a)

    words_taken : AllRight s (per_day u) (list_entries list) → (ledger s (per_day u) (list_entries list)).accepts ≡ true
    words_taken a =
        right_taken s (per_day u) (sheet_checked s h) (list_entries list) (named_low s list n)
        (right_fitting s (per_day u) (sheet_checked s h) (list_entries list) (named_low s list n)
        (all_weaken (λ e w. w.0) (rise_parts (list_entries list) o).1)
        (rise_parts (list_entries list) o).0 a)

    ledger_answer : eqb (blocks_refusal s u list) accepted ≡ (ledger s (per_day u) (list_entries list)).accepts
    ledger_answer =
        split (ledger s (per_day u) (list_entries list)).accepts
        (λ y. rw y (eq-eqb (blocks_refusal s u list) accepted (tests_accepted s u h k list n o y)))
        (λ y. rw y (ne_eqb (blocks_refusal s u list) accepted (λ z. clash (accepted_tests s u h k list z).2 y)))

    judged : Judged s u list
    judged =
        record {
          by_ledger = ledger_answer;
          by_words = λ z. taken_words (accepted_tests s u h k list z).2;
          words_accepted = λ a. tests_accepted s u h k list n o (words_taken a);
        }

  front_accepted : (a b : List ℕ) → length a % 4 ≡ 0 → blocks_refusal s u (a ++ b) ≡ accepted → blocks_refusal s u a ≡ accepted
  unfolding ledger
  front_accepted a b w z =
      let t = accepted_tests s u h k (a ++ b) z in
      tests_accepted s u h k a (named_front s a b w t.0)
      (rise_front (list_entries a) (list_entries b) (rw (entries_append a b w) at t.1))
      (taken_front s (per_day u) (list_entries a) (list_entries b) none_kept (rw (entries_append a b w) at t.2))

-- What the answer comes to, on every checked sheet and setup.
pub block_lists : BlockListsJudged
block_lists s u h k =
    record {
      judged = judged s u h k;
      tested = λ list z. let w = accepted_tests s u h k list z in (w.0, w.1);
      confirmed = λ bs.
          fine_list s u h k (entries_of s u bs) (entries_fine s u h k bs (start s) (sound_start s u)) (agreement s u h k bs).ordered (agreement s u h k bs).accepts;
      front = front_accepted s u h k;
    }
