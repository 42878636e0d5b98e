-- The tests of the call, one after another: the sheet's, the setup's, the list's own.
-- Assumes nothing.
use Rattle.laws.proofs.Prelude.{ℕ, ◌<◌, ◌≡◌, refl, sym, ◌∙◌, Bool, List, ◌++◌, lit<, first_failing, answer_below, passed_append, failed_append}
use Rattle.position.proofs.Rules.{array_tests, sheet_tests, sheet_refusal, per_day, setup_tests, setup_refusal, Entry, ledger}
use Rattle.call_blocks.specs.BlockList.{list_tests, blocks_tests, blocks_refusal}

module _ (s u list : List ℕ) where
  after_sheet : sheet_refusal s ≡ 0 → blocks_refusal s u list ≡ first_failing (setup_tests s u ++ list_tests s u list)
  unfolding blocks_refusal blocks_tests sheet_refusal sheet_tests array_tests
  after_sheet h = passed_append (sheet_tests s) (setup_tests s u ++ list_tests s u list) refl h

  -- behind a sheet and a setup that pass, the list's own tests answer
  pub own_tests : sheet_refusal s ≡ 0 → setup_refusal s u ≡ 0 → blocks_refusal s u list ≡ first_failing (list_tests s u list)
  unfolding setup_refusal setup_tests
  own_tests h k = after_sheet h ∙ passed_append (setup_tests s u) (list_tests s u list) refl k

  -- the number is one of the tests', or 0
  pub refusal_below : blocks_refusal s u list < 33
  unfolding blocks_refusal blocks_tests sheet_tests array_tests setup_tests list_tests
  refusal_below = answer_below 33 (blocks_tests s u list) (lit< tt) refl

  -- the returns of the code, where a and b are what it found of the sheet and of the setup
  pub by_sheet : (a : ℕ) → a ≡ sheet_refusal s → (a ≡ 0 → ⊥) → a ≡ blocks_refusal s u list
  unfolding blocks_refusal blocks_tests sheet_refusal
  by_sheet a e n = e ∙ sym (failed_append (sheet_tests s) (setup_tests s u ++ list_tests s u list) (λ z. n (e ∙ z)))

  pub by_setup : (a b : ℕ) → a ≡ sheet_refusal s → a ≡ 0 → b ≡ setup_refusal s u → (b ≡ 0 → ⊥) → b ≡ blocks_refusal s u list
  unfolding setup_refusal
  by_setup a b e z f n = f ∙ sym (failed_append (setup_tests s u) (list_tests s u list) (λ y. n (f ∙ y))) ∙ sym (after_sheet (sym e ∙ z))

  pub by_list : (a b r : ℕ) → a ≡ sheet_refusal s → a ≡ 0 → b ≡ setup_refusal s u → b ≡ 0 → r ≡ first_failing (list_tests s u list) → r ≡ blocks_refusal s u list
  by_list a b r e z f y g = g ∙ sym (own_tests (sym e ∙ z) (sym f ∙ y))

-- the code's own blocks per day
pub ledger_by : (s u : List ℕ) (l : List Entry) (d : ℕ) (r : Bool) → d ≡ per_day u → r ≡ (ledger s d l).accepts → r ≡ (ledger s (per_day u) l).accepts
ledger_by s u l d r e h = rw e at h
