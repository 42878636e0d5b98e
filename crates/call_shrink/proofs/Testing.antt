-- The tests before any step, one after another.
-- Assumes nothing.
use Rattle.laws.proofs.Prelude.{ℕ, ◌*◌, ◌≡◌, refl, sym, ◌∙◌, true, List, [], ◌∷◌, leb, length, first_failing, numbered, passed_append}
use Rattle.laws.proofs.Prelude.{failed_append}
use Rattle.position.proofs.Rules.{array_tests, sheet_tests, sheet_refusal, setup_tests, call_tests}
use Rattle.call_run.proofs.Calls.{by_sheet}
use Rattle.sheet.specs.Refusal.{journal_long}
use Rattle.call_shrink.specs.Shrink.{long_tests}

module _ (s u j : List ℕ) where
  pub call_numbered : numbered (call_tests s u j) ≡ true
  unfolding call_tests sheet_tests array_tests setup_tests
  call_numbered = refl

  -- the returns of the code, where a is what it found
  pub long_call : (a : ℕ) → a ≡ first_failing (call_tests s u j) → (a ≡ 0 → ⊥) → a ≡ first_failing (long_tests s u j)
  unfolding long_tests
  long_call a e n = e ∙ sym (failed_append (call_tests s u j) ((journal_long, leb (length j) (4 * 1024)) ∷ []) (λ z. n (e ∙ z)))

  pub long_sheet : (a : ℕ) → a ≡ sheet_refusal s → (a ≡ 0 → ⊥) → a ≡ first_failing (long_tests s u j)
  long_sheet a e n = long_call a (by_sheet s u j a e n) n

  module _ (a : ℕ) (e : a ≡ first_failing (call_tests s u j)) (z : a ≡ 0) where
    after_call : first_failing (long_tests s u j) ≡ first_failing ((journal_long, leb (length j) (4 * 1024)) ∷ [])
    unfolding long_tests
    after_call = passed_append (call_tests s u j) ((journal_long, leb (length j) (4 * 1024)) ∷ []) call_numbered (sym e ∙ z)

    pub long_rest : (n : ℕ) → n ≡ first_failing ((journal_long, leb (length j) (4 * 1024)) ∷ []) → n ≡ first_failing (long_tests s u j)
    long_rest n h = h ∙ sym after_call
