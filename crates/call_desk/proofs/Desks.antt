-- The checks of the call, one after another, and its answers, case by case.
-- Assumes nothing.
use Rattle.laws.proofs.Prelude.{ℕ, ◌*◌, ◌≤◌, ◌<◌, ◌≡◌, refl, sym, ◌∙◌, Bool, true, false, not, List, [], ◌∷◌, eqb, lit<, length, eqb-true, eqb-false, eq-eqb, ne_eqb}
use Rattle.laws.proofs.Prelude.{arith, split, first_failing, passed, passed_append, failed_append, answer_below, fails, passes, none_left, length_gather, length_pair}
use Rattle.laws.proofs.Prelude.{over}
use Rattle.position.proofs.Rules.{accepted, buffer_short, array_tests, sheet_tests, sheet_refusal, Written, fitted}
use Rattle.position.proofs.Passing.{written, not_written, fitted_bounds}
use Rattle.sheet.specs.Refusal.{bundle_layout}
use Rattle.call_desk.specs.Bundle.{swaps, bundle_right}
use Rattle.call_desk.specs.Desk.{swap_run, entry_bytes, swap_bytes, desk_bytes, desk_tests, desk_answer}

-- eight bytes for each swap
pub swap_length : (s b : List ℕ) (i : ℕ) → length (swap_bytes s b i) ≡ 8
unfolding swap_bytes entry_bytes
swap_length s b i = length_pair 4 (λ k. (swap_run s b k).refusal) (λ k. (swap_run s b k).accepted) i

pub desk_length : (s b : List ℕ) → length (desk_bytes s b) ≡ 8 * swaps b
unfolding desk_bytes
desk_length s b = length_gather (swap_bytes s b) 8 (swap_length s b) (swaps b)

-- ---- the checks
module _ (s b : List ℕ) where
  abbrev bundle_tests : List (ℕ × Bool)
  bundle_tests = (bundle_layout, bundle_right b) ∷ []

  after_sheet : sheet_refusal s ≡ 0 → first_failing (desk_tests s b) ≡ first_failing bundle_tests
  unfolding sheet_refusal desk_tests sheet_tests array_tests
  after_sheet h = passed_append (sheet_tests s) bundle_tests refl h

  -- the returns of the code, where a is what it found of the sheet and r of the bundle
  pub by_sheet : (a : ℕ) → a ≡ sheet_refusal s → (a ≡ 0 → ⊥) → a ≡ first_failing (desk_tests s b)
  unfolding sheet_refusal desk_tests
  by_sheet a e n = e ∙ sym (failed_append (sheet_tests s) bundle_tests (λ z. n (e ∙ z)))

  pub by_bundle : (a : ℕ) (r : Bool) → a ≡ sheet_refusal s → a ≡ 0 → r ≡ bundle_right b → not r ≡ true → 28 ≡ first_failing (desk_tests s b)
  by_bundle a r e z f n = fails 28 (bundle_right b) r [] f n ∙ sym (after_sheet (sym e ∙ z))

  pub by_none : (a : ℕ) (r : Bool) → a ≡ sheet_refusal s → a ≡ 0 → r ≡ bundle_right b → not r ≡ false → 0 ≡ first_failing (desk_tests s b)
  by_none a r e z f n = passes 28 0 (bundle_right b) r [] f n none_left ∙ sym (after_sheet (sym e ∙ z))

  -- where none fails
  module _ (h : first_failing (desk_tests s b) ≡ 0) where
    pub sheet_passes : sheet_refusal s ≡ 0
    unfolding sheet_refusal desk_tests
    sheet_passes =
        split (eqb (first_failing (sheet_tests s)) 0)
        (λ e. eqb-true (first_failing (sheet_tests s)) 0 e)
        (λ e. sym (failed_append (sheet_tests s) bundle_tests (eqb-false (first_failing (sheet_tests s)) 0 e)) ∙ h)

    pub bundle_passes : bundle_right b ≡ true
    bundle_passes = passed bundle_tests refl (sym (after_sheet sheet_passes) ∙ h) 28

  tests_below : first_failing (desk_tests s b) < 29
  unfolding desk_tests sheet_tests array_tests
  tests_below = answer_below 29 (desk_tests s b) (lit< tt) refl

-- a refusal x and a buffer l are those of an answer
abbrev pub Gives : ℕ → List ℕ → Written → Type 0
Gives x l w = (x ≡ w.refusal) × (l ≡ w.buffer)

-- ---- the answers, where n is the number that the code found
module _ (s b out : List ℕ) (n : ℕ) (e : n ≡ first_failing (desk_tests s b)) where
  pub desk_refused : (n ≡ 0 → ⊥) → desk_answer s b out ≡ record { refusal = n; count = 0; buffer = out }
  unfolding desk_answer
  desk_refused h = rw (ne_eqb (first_failing (desk_tests s b)) 0 (λ z. h (e ∙ z)), desk_answer, e)

  pub desk_allowed : n ≡ 0 → desk_answer s b out ≡ fitted (desk_bytes s b) 0 out
  unfolding desk_answer
  desk_allowed z = rw (eq-eqb (first_failing (desk_tests s b)) 0 (sym e ∙ z), desk_answer)

  pub desk_whole : n ≡ 0 → 8 * swaps b ≤ length out → desk_answer s b out ≡ record { refusal = accepted; count = 0; buffer = over (desk_bytes s b) out }
  desk_whole z l = desk_allowed z ∙ written (desk_bytes s b) out 0 (rw (desk_length s b) l)

  pub desk_short : n ≡ 0 → length out < 8 * swaps b → desk_answer s b out ≡ record { refusal = buffer_short; count = 0; buffer = out }
  desk_short z l = desk_allowed z ∙ not_written (desk_bytes s b) out 0 (rw (desk_length s b) l)

  -- the returns of the code
  pub gives_refused : (n ≡ 0 → ⊥) → Gives n out (desk_answer s b out)
  gives_refused h = rw (desk_refused h) (refl, refl)

  pub gives_short : n ≡ 0 → length out < 8 * swaps b → Gives 25 out (desk_answer s b out)
  gives_short z l = rw (desk_short z l) (refl, refl)

  pub gives_whole : (l : List ℕ) → n ≡ 0 → 8 * swaps b ≤ length out → l ≡ over (desk_bytes s b) out → Gives 0 l (desk_answer s b out)
  gives_whole l z f o = rw (desk_whole z f) (refl, o)

-- the number of a desk
pub desk_below : (s b out : List ℕ) → (desk_answer s b out).refusal < 29
desk_below s b out =
    let n = first_failing (desk_tests s b) in
    split (eqb n 0)
    (λ e. rw (desk_allowed s b out n refl (eqb-true n 0 e)) (omega (arith, (fitted_bounds (desk_bytes s b) out 0).0)))
    (λ e. rw (desk_refused s b out n refl (eqb-false n 0 e)) (tests_below s b))
