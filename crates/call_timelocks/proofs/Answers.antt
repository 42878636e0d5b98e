-- The answers of the call, case by case, and what it gives that no test of the two numbers fails.
-- Assumes nothing.
use Rattle.laws.proofs.Prelude.{ℕ, ◌*◌, ◌≤◌, ◌<◌, ◌≡◌, refl, sym, ◌∙◌, Bool, true, false, List, [], ◌∷◌, ◌++◌, eqb, leb, lit<, length, eqb-true, eqb-false, leb-true}
use Rattle.laws.proofs.Prelude.{leb-false, ne_eqb, le-leb, lt-leb, all_below, split, first_failing, numbered, passed, passed_append, failed_append, answer_below, over}
use Rattle.sheet.specs.Refusal.{accepted, buffer_short}
use Rattle.sheet.specs.Field.{count}
use Rattle.sheet.specs.Check.{array_tests, sheet_tests, sheet_refusal}
use Rattle.sheet.specs.Setup.{per_day, setup_tests, setup_refusal}
use Rattle.sheet.specs.Checked.{Fit}
use Rattle.sheet.proofs.Theorems.{fit}
use Rattle.call_timelocks.specs.Fields.{timelock_bytes}
use Rattle.call_timelocks.specs.Limits.{relative_right, absolute_right, limit_tests}
use Rattle.call_timelocks.specs.Timelocks.{field_tests, field_refusal, timelocks_tests, timelocks_answer}
use Rattle.call_timelocks.proofs.Lengths.{bytes_length}

-- two lists of tests whose answer is 0
both_pass : (a b : List (ℕ × Bool)) → numbered a ≡ true → first_failing (a ++ b) ≡ 0 → (first_failing a ≡ 0) × (first_failing b ≡ 0)
both_pass a b n h =
    split (eqb (first_failing a) 0)
    (λ e. let z = eqb-true (first_failing a) 0 e in (z, sym (passed_append a b n z) ∙ h))
    (λ e. let z = eqb-false (first_failing a) 0 e in absurd (z (sym (failed_append a b z) ∙ h)))

module _ (s u : List ℕ) (base : ℕ) where
  abbrev limits : List (ℕ × Bool)
  limits = limit_tests s (per_day u) base

  limits_numbered : numbered limits ≡ true
  unfolding limit_tests
  limits_numbered = refl

  field_numbered : numbered (field_tests s u base) ≡ true
  unfolding field_tests sheet_tests array_tests setup_tests limit_tests
  field_numbered = refl

  after_sheet : sheet_refusal s ≡ 0 → field_refusal s u base ≡ first_failing (setup_tests s u ++ limits)
  unfolding sheet_refusal field_tests field_refusal sheet_tests array_tests
  after_sheet h = passed_append (sheet_tests s) (setup_tests s u ++ limits) refl h

  -- the returns of the code, where a, b and c are what it found of the sheet, of the setup and of the two limits
  pub by_sheet : (a : ℕ) → a ≡ sheet_refusal s → (a ≡ 0 → ⊥) → a ≡ field_refusal s u base
  unfolding sheet_refusal field_tests field_refusal
  by_sheet a e n = e ∙ sym (failed_append (sheet_tests s) (setup_tests s u ++ limits) (λ z. n (e ∙ z)))

  pub by_setup : (a b : ℕ) → a ≡ sheet_refusal s → a ≡ 0 → b ≡ setup_refusal s u → (b ≡ 0 → ⊥) → b ≡ field_refusal s u base
  unfolding setup_refusal
  by_setup a b e z f n = f ∙ sym (failed_append (setup_tests s u) limits (λ y. n (f ∙ y))) ∙ sym (after_sheet (sym e ∙ z))

  pub by_limits : (a b d c : ℕ) → a ≡ sheet_refusal s → a ≡ 0 → b ≡ setup_refusal s u → b ≡ 0 → d ≡ per_day u
      → c ≡ first_failing (limit_tests s d base) → c ≡ field_refusal s u base
  unfolding setup_refusal setup_tests
  by_limits a b d c e z f y g h =
      (rw g at h) ∙ sym (passed_append (setup_tests s u) limits refl (sym f ∙ y)) ∙ sym (after_sheet (sym e ∙ z))

  -- the tests of the two numbers passed
  module _ (h : field_refusal s u base ≡ 0) where
    sheet_passes : (sheet_refusal s ≡ 0) × (first_failing (setup_tests s u ++ limits) ≡ 0)
    unfolding sheet_refusal field_tests field_refusal sheet_tests array_tests
    sheet_passes = both_pass (sheet_tests s) (setup_tests s u ++ limits) refl h

    setup_passes : (setup_refusal s u ≡ 0) × (first_failing limits ≡ 0)
    unfolding setup_refusal setup_tests
    setup_passes = both_pass (setup_tests s u) limits refl sheet_passes.1

    pub field_fit : Fit s u
    field_fit = fit s u sheet_passes.0 setup_passes.0

    pub all_relative : all_below (count s) (relative_right s (per_day u)) ≡ true
    unfolding limit_tests
    all_relative = passed limits limits_numbered setup_passes.1 26

    pub all_absolute : all_below (count s) (absolute_right s (per_day u) base) ≡ true
    unfolding limit_tests
    all_absolute = passed limits limits_numbered setup_passes.1 27

  module _ (out : List ℕ) where
    abbrev bytes : List ℕ
    bytes = timelock_bytes s (per_day u) base

    abbrev number : ℕ
    number = first_failing (timelocks_tests s u base out)

    number_refused : (field_refusal s u base ≡ 0 → ⊥) → number ≡ field_refusal s u base
    unfolding timelocks_tests field_refusal
    number_refused h = failed_append (field_tests s u base) ((buffer_short, leb (length bytes) (length out)) ∷ []) h

    number_fitted : field_refusal s u base ≡ 0 → (b : Bool) → leb (length bytes) (length out) ≡ b → number ≡ first_failing ((buffer_short, b) ∷ [])
    unfolding timelocks_tests field_refusal
    number_fitted h b e = rw (← e) (passed_append (field_tests s u base) ((buffer_short, leb (length bytes) (length out)) ∷ []) field_numbered h)

    number_short : field_refusal s u base ≡ 0 → length out < 8 * count s → number ≡ buffer_short
    unfolding first_failing
    number_short h l = number_fitted h false (lt-leb (length bytes) (length out) (rw (bytes_length s (per_day u) base) l))

    number_whole : field_refusal s u base ≡ 0 → 8 * count s ≤ length out → number ≡ accepted
    unfolding first_failing
    number_whole h l = number_fitted h true (le-leb (length bytes) (length out) (rw (bytes_length s (per_day u) base) l))

    answer_no : (n : ℕ) → number ≡ n → (n ≡ 0 → ⊥) → timelocks_answer s u base out ≡ record { refusal = n; buffer = out }
    unfolding timelocks_answer
    answer_no n e h = let f : eqb number 0 ≡ false = ne_eqb number 0 (λ z. h (sym e ∙ z)) in rw (f, timelocks_answer, e)

    answer_yes : number ≡ accepted → timelocks_answer s u base out ≡ record { refusal = accepted; buffer = over bytes out }
    unfolding timelocks_answer
    answer_yes e = rw (e, timelocks_answer)

    -- the returns of the call, where r is what it found of the two numbers
    pub answer_refused : (r : ℕ) → r ≡ field_refusal s u base → (r ≡ 0 → ⊥) → timelocks_answer s u base out ≡ record { refusal = r; buffer = out }
    answer_refused r e h = answer_no r (number_refused (λ z. h (e ∙ z)) ∙ sym e) h

    pub answer_short : field_refusal s u base ≡ 0 → length out < 8 * count s → timelocks_answer s u base out ≡ record { refusal = buffer_short; buffer = out }
    answer_short h l = answer_no buffer_short (number_short h l) (λ z. eqb-false buffer_short 0 refl z)

    pub answer_whole : field_refusal s u base ≡ 0 → 8 * count s ≤ length out → timelocks_answer s u base out ≡ record { refusal = accepted; buffer = over bytes out }
    answer_whole h l = answer_yes (number_whole h l)

    -- an answer of 0
    pub accepted_whole : (timelocks_answer s u base out).refusal ≡ accepted
        → (field_refusal s u base ≡ 0) × (8 * count s ≤ length out) × (timelocks_answer s u base out ≡ record { refusal = accepted; buffer = over bytes out })
    accepted_whole h =
        split (eqb (field_refusal s u base) 0)
        (λ e.
        let z = eqb-true (field_refusal s u base) 0 e in
        split (leb (8 * count s) (length out))
        (λ f. let l = leb-true (8 * count s) (length out) f in (z, l, answer_whole z l))
        (λ f. let l = leb-false (8 * count s) (length out) f in absurd (eqb-false buffer_short 0 refl (rw (answer_short z l) at h))))
        (λ e. let z = eqb-false (field_refusal s u base) 0 e in absurd (z (rw (answer_refused (field_refusal s u base) refl z) at h)))

    number_below : number < 33
    unfolding timelocks_tests field_tests sheet_tests array_tests setup_tests limit_tests
    number_below = answer_below 33 (timelocks_tests s u base out) (lit< tt) refl

    -- the number of the call is one of the refusals to 27
    pub timelocks_below : (timelocks_answer s u base out).refusal < 33
    timelocks_below =
        split (eqb number accepted)
        (λ e. rw (answer_yes (eqb-true number accepted e)) (lit< tt))
        (λ e. rw (answer_no number refl (eqb-false number accepted e)) number_below)
