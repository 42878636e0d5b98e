-- The number: the sheet's tests, then the setup's, then the room of the two buffers.
-- Assumes nothing.
use Rattle.laws.proofs.Prelude.{ℕ, ◌*◌, ◌≤◌, ◌<◌, ◌≡◌, refl, sym, ◌∙◌, Bool, List, [], ◌∷◌, ◌++◌, length, le-leb, lt-leb, first_failing, passed_append, failed_append}
use Rattle.position.proofs.Rules.{buffer_short, count, array_tests, sheet_tests, sheet_refusal, setup_tests, setup_refusal, row_width, FourBytes}
use Rattle.claim_history.specs.Promise.{accepted_bytes, room_right, history_number}

module _ (s u : List ℕ) (bs : List FourBytes) (a o : List ℕ) where
  abbrev room_tests : List (ℕ × Bool)
  room_tests = (buffer_short, room_right s u bs a o) ∷ []

  after_sheet : sheet_refusal s ≡ 0 → history_number s u bs a o ≡ first_failing (setup_tests s u ++ room_tests)
  unfolding sheet_refusal history_number sheet_tests array_tests
  after_sheet h = passed_append (sheet_tests s) (setup_tests s u ++ room_tests) refl h

  after_setup : sheet_refusal s ≡ 0 → setup_refusal s u ≡ 0 → history_number s u bs a o ≡ first_failing room_tests
  unfolding setup_refusal setup_tests
  after_setup h k = after_sheet h ∙ passed_append (setup_tests s u) room_tests refl k

  pub by_sheet : (sheet_refusal s ≡ 0 → ⊥) → sheet_refusal s ≡ history_number s u bs a o
  unfolding sheet_refusal history_number
  by_sheet n = sym (failed_append (sheet_tests s) (setup_tests s u ++ room_tests) n)

  pub by_setup : sheet_refusal s ≡ 0 → (setup_refusal s u ≡ 0 → ⊥) → setup_refusal s u ≡ history_number s u bs a o
  unfolding setup_refusal
  by_setup h n = sym (failed_append (setup_tests s u) room_tests n) ∙ sym (after_sheet h)

  module _ (h : sheet_refusal s ≡ 0) (k : setup_refusal s u ≡ 0) where
    pub by_accepted : length a < length (accepted_bytes s u bs) → buffer_short ≡ history_number s u bs a o
    unfolding first_failing room_right
    by_accepted l = rw (after_setup h k, lt-leb (length (accepted_bytes s u bs)) (length a) l)

    pub by_report : length (accepted_bytes s u bs) ≤ length a → length o < row_width * count s → buffer_short ≡ history_number s u bs a o
    unfolding first_failing room_right
    by_report m l = rw (after_setup h k, le-leb (length (accepted_bytes s u bs)) (length a) m, lt-leb (row_width * count s) (length o) l)

    pub by_none : length (accepted_bytes s u bs) ≤ length a → row_width * count s ≤ length o → 0 ≡ history_number s u bs a o
    unfolding first_failing room_right
    by_none m l = rw (after_setup h k, le-leb (length (accepted_bytes s u bs)) (length a) m, le-leb (row_width * count s) (length o) l)
