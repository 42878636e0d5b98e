-- The checks before any step, one after another, and what they give where none fails.
-- Assumes nothing.
use Rattle.laws.proofs.Prelude.{ℕ, ◌%◌, ◌≤◌, ◌≡◌, refl, sym, ◌∙◌, Bool, true, false, not, List, [], ◌∷◌, ◌++◌, eqb, leb, length, eqb-true, leb-true, and_parts}
use Rattle.laws.proofs.Prelude.{first_failing, passed, passed_append, failed_append, fails, passes, none_left}
use Rattle.position.proofs.Rules.{journal_length, array_tests, sheet_tests, sheet_refusal, setup_tests, setup_refusal, Fit, journal_right, call_tests}
use Rattle.laws.specs.Failing.{front_passes}
use Rattle.sheet.proofs.Theorems.{fit}

module _ (s u j : List ℕ) where
  abbrev journal_tests : List (ℕ × Bool)
  journal_tests = (journal_length, journal_right j) ∷ []

  after_sheet : sheet_refusal s ≡ 0 → first_failing (call_tests s u j) ≡ first_failing (setup_tests s u ++ journal_tests)
  unfolding sheet_refusal call_tests sheet_tests array_tests
  after_sheet h = passed_append (sheet_tests s) (setup_tests s u ++ journal_tests) refl h

  after_setup : sheet_refusal s ≡ 0 → setup_refusal s u ≡ 0 → first_failing (call_tests s u j) ≡ first_failing journal_tests
  unfolding setup_refusal setup_tests
  after_setup h k = after_sheet h ∙ passed_append (setup_tests s u) journal_tests refl k

  -- the returns of the code, where a and b are what it found of the sheet and of the setup
  pub by_sheet : (a : ℕ) → a ≡ sheet_refusal s → (a ≡ 0 → ⊥) → a ≡ first_failing (call_tests s u j)
  unfolding sheet_refusal call_tests
  by_sheet a e n = e ∙ sym (failed_append (sheet_tests s) (setup_tests s u ++ journal_tests) (λ z. n (e ∙ z)))

  pub by_setup : (b : ℕ) → sheet_refusal s ≡ 0 → b ≡ setup_refusal s u → (b ≡ 0 → ⊥) → b ≡ first_failing (call_tests s u j)
  unfolding setup_refusal
  by_setup b h f n = f ∙ sym (failed_append (setup_tests s u) journal_tests (λ y. n (f ∙ y))) ∙ sym (after_sheet h)

  pub by_journal : (b : ℕ) (r : Bool) → sheet_refusal s ≡ 0 → b ≡ setup_refusal s u → b ≡ 0 → r ≡ journal_right j → not r ≡ true → 24 ≡ first_failing (call_tests s u j)
  by_journal b r h f y g n = fails 24 (journal_right j) r [] g n ∙ sym (after_setup h (sym f ∙ y))

  pub by_none : (b : ℕ) (r : Bool) → sheet_refusal s ≡ 0 → b ≡ setup_refusal s u → b ≡ 0 → r ≡ journal_right j → not r ≡ false → 0 ≡ first_failing (call_tests s u j)
  by_none b r h f y g n = passes 24 0 (journal_right j) r [] g n none_left ∙ sym (after_setup h (sym f ∙ y))

  module _ (h : first_failing (call_tests s u j) ≡ 0) where
    pub sheet_passes : sheet_refusal s ≡ 0
    unfolding sheet_refusal call_tests
    sheet_passes = front_passes (sheet_tests s) (setup_tests s u ++ journal_tests) h

    pub setup_passes : setup_refusal s u ≡ 0
    unfolding setup_refusal
    setup_passes = front_passes (setup_tests s u) journal_tests (sym (after_sheet sheet_passes) ∙ h)

    journal_passes : journal_right j ≡ true
    journal_passes = passed journal_tests refl (sym (after_setup sheet_passes setup_passes) ∙ h) 24

    -- the journal has whole steps, and not too many
    pub journal_whole : (length j % 4 ≡ 0) × (length j ≤ 65536)
    unfolding journal_right
    journal_whole =
        let w = and_parts (eqb (length j % 4) 0) (leb (length j) 65536) journal_passes in
        (eqb-true (length j % 4) 0 w.0, leb-true (length j) 65536 w.1)

    pub call_fit : Fit s u
    call_fit = fit s u sheet_passes setup_passes
