-- The answer, case by case.
-- Assumes nothing.
use Rattle.laws.proofs.Prelude.{ℕ, ◌+◌, ◌*◌, ◌/◌, ◌%◌, ◌≤◌, ◌<◌, ◌≡◌, refl, sym, ap, ◌∙◌, Bool, true, false, not, List, [], ◌∷◌, eqb, leb, lit<, lit≤, length, take}
use Rattle.laws.proofs.Prelude.{eqb-true, eqb-false, leb-true, eq-eqb, ne_eqb, arith, length-take, split, first_failing, numbered, passed, passed_append, failed_append}
use Rattle.laws.proofs.Prelude.{answer_below, over, take_over}
use Rattle.position.proofs.Rules.{accepted, array_tests, sheet_tests, setup_tests, start, FourBytes, journal_steps, journal_bytes, run_from, call_tests, run}
use Rattle.position.specs.declared.Position.{Position}
use Rattle.position.specs.declared.Ran.{Ran}
use Rattle.position.proofs.Rules.{fitted}
use Rattle.position.proofs.Passing.{Gives, written, not_written, fitted_bounds}
use Rattle.step_laws.proofs.Journals.{journal_length_lem}
use Rattle.call_run.proofs.Runs.{run_allowed}
use Rattle.call_run.proofs.Bounds.{steps_bytes}
use Rattle.sheet.specs.Refusal.{journal_long, none_refused}
use Rattle.call_shrink.specs.Shrink.{still_refused, shrunk, refused_row, few_steps, long_tests, shrink_tests, shrink_answer}
use Rattle.call_shrink.specs.Forms.Round.{Starts}
use Rattle.call_shrink.proofs.Rounding.{next_length, shrunk_keeps}
use Rattle.call_shrink.proofs.Refused.{steps_take, cut, cut_still}

pub shrunk_length : (s u : List ℕ) (number : ℕ) (row : List FourBytes) → length (shrunk s u number row) ≤ length row
shrunk_length s u number row =
    shrunk_keeps s u number (λ m. length m ≤ length row) (λ m h. omega (arith, next_length s u number m)) row (omega arith)

-- ---- the part written, where the code copied the row into l and the rounds left n steps of it
pub row_copied : (row l part : List ℕ) → length row % 4 ≡ 0 → length row ≤ length l → part ≡ over row l → take (4 * (length row / 4)) part ≡ row
row_copied row l part h g e =
    let k : 4 * (length row / 4) ≡ length row = omega arith in
    rw (k, e) (take_over row l g)

module _ (s u : List ℕ) (number : ℕ) (row part left : List ℕ) (n : ℕ) (few : length row ≤ 4096) (e : take (4 * (length row / 4)) part ≡ row)
    (w : Starts (shrunk s u number (journal_steps (take (4 * (length row / 4)) part))) left n) where
  abbrev few_row : List FourBytes
  few_row = shrunk s u number (journal_steps row)

  is_count : n ≡ length few_row
  is_count = rw (← e) w.count

  is_front : take (4 * n) left ≡ journal_bytes few_row
  is_front = rw (← e) w.front

  pub left_few : n ≤ 1024
  left_few = omega (arith, is_count, shrunk_length s u number (journal_steps row), steps_bytes row)

  pub left_long : length (take (4 * n) left) ≡ 4 * n
  left_long = ap length is_front ∙ omega (arith, journal_length_lem few_row, is_count)

  module _ (out : List ℕ) where
    pub left_short : length out < 4 * n → Gives 25 0 out (fitted (journal_bytes few_row) (length few_row) out)
    left_short h = rw (not_written (journal_bytes few_row) out (length few_row) (omega (arith, journal_length_lem few_row, is_count))) (refl, (refl, refl))

    pub left_written : 4 * n ≤ length out → (after : List ℕ) → after ≡ over (take (4 * n) left) out → Gives 0 n after (fitted (journal_bytes few_row) (length few_row) out)
    left_written h after o =
        rw (written (journal_bytes few_row) out (length few_row) (omega (arith, journal_length_lem few_row, is_count))) (refl, (is_count, o ∙ ap (λ b. over b out) is_front))

-- ---- the whole answer
module _ (s u j : List ℕ) where
  long_numbered : numbered (long_tests s u j) ≡ true
  unfolding long_tests call_tests sheet_tests array_tests setup_tests
  long_numbered = refl

  -- tests that all pass have passed those before any step
  pub calls_pass : first_failing (long_tests s u j) ≡ 0 → first_failing (call_tests s u j) ≡ 0
  unfolding long_tests
  calls_pass z =
      split (eqb (first_failing (call_tests s u j)) 0)
      (λ y. eqb-true (first_failing (call_tests s u j)) 0 y)
      (λ y. sym (failed_append (call_tests s u j) ((journal_long, leb (length j) (4 * 1024)) ∷ []) (eqb-false (first_failing (call_tests s u j)) 0 y)) ∙ z)

  pub calls_short : first_failing (long_tests s u j) ≡ 0 → length j ≤ 4096
  unfolding long_tests call_tests sheet_tests array_tests setup_tests
  calls_short z = leb-true (length j) 4096 (passed (long_tests s u j) long_numbered z 36)

  module _ (out : List ℕ) where
    refuses : (number : ℕ) → first_failing (shrink_tests s u j) ≡ number → (number ≡ 0 → ⊥) → shrink_answer s u j out ≡ record { refusal = number; count = 0; buffer = out }
    unfolding shrink_answer
    refuses number e n = rw (ne_eqb (first_failing (shrink_tests s u j)) 0 (λ y. n (sym e ∙ y)), shrink_answer) (rw e refl)

    -- the tests fail before any step
    pub answer_long : (a : ℕ) → a ≡ first_failing (long_tests s u j) → (a ≡ 0 → ⊥) → Gives a 0 out (shrink_answer s u j out)
    unfolding shrink_tests
    answer_long a e n =
        let t : List (ℕ × Bool) = (none_refused, not (eqb (run s u j).refusal accepted)) ∷ [] in
        rw (refuses a (failed_append (long_tests s u j) t (λ z. n (e ∙ z)) ∙ sym e) n) (refl, (refl, refl))

    module _ (z : first_failing (long_tests s u j) ≡ 0) where
      last_test : (b : Bool) → eqb (run s u j).refusal accepted ≡ b → first_failing (shrink_tests s u j) ≡ first_failing ((none_refused, not b) ∷ [])
      unfolding shrink_tests
      last_test b e =
          passed_append (long_tests s u j) ((none_refused, not (eqb (run s u j).refusal accepted)) ∷ []) long_numbered z ∙ rw e refl

      -- no step is refused
      pub answer_none : (run s u j).refusal ≡ 0 → Gives 37 0 out (shrink_answer s u j out)
      unfolding first_failing
      answer_none h =
          rw (refuses 37 (last_test true (eq-eqb (run s u j).refusal accepted h)) (λ y. eqb-false 37 0 refl y)) (refl, (refl, refl))

      -- the part is written where it fits
      pub answer_fitted : ((run s u j).refusal ≡ 0 → ⊥) → shrink_answer s u j out ≡ fitted (journal_bytes (few_steps s u j)) (length (few_steps s u j)) out
      unfolding shrink_answer first_failing
      answer_fitted h = rw (last_test false (ne_eqb (run s u j).refusal accepted h), shrink_answer)

  -- the refused row, where r is the run that the code found
  module _ (z : first_failing (long_tests s u j) ≡ 0) (p : Position) (f : p ≡ start s) (r : Ran) (g : r ≡ run_from s u (journal_steps j) 0 p) where
    pub ran_whole : r ≡ run s u j
    ran_whole = g ∙ rw f (sym (run_allowed s u j (calls_pass z)))

    module _ (h : r.refusal ≡ 0 → ⊥) where
      from_start : r ≡ run_from s u (journal_steps j) 0 (start s)
      from_start = rw f at g

      refused : (run_from s u (journal_steps j) 0 (start s)).refusal ≡ 0 → ⊥
      refused y = h (rw from_start y)

      pub row_fits : 4 * r.accepted + 4 ≤ length j
      row_fits =
          let w = cut s u (journal_steps j) 0 (start s) refused in
          let k : r.accepted ≡ (run_from s u (journal_steps j) 0 (start s)).accepted = rw from_start refl in
          omega (arith, k, w.counted, w.within, steps_bytes j)

      pub row_length : length (take (4 * r.accepted + 4) j) ≡ 4 * r.accepted + 4
      row_length = omega (arith, length-take (4 * r.accepted + 4) j, row_fits)

      row_steps : journal_steps (take (4 * r.accepted + 4) j) ≡ take (r.accepted + 1) (journal_steps j)
      row_steps = let k : 4 * r.accepted + 4 ≡ 4 * (r.accepted + 1) = omega arith in rw k (steps_take (r.accepted + 1) j)

      pub row_still : still_refused s u r.refusal (start s) (journal_steps (take (4 * r.accepted + 4) j)) ≡ true
      row_still = rw (row_steps, from_start) (cut_still s u (journal_steps j) (run_from s u (journal_steps j) 0 (start s)).accepted (start s) refused refl)

      few_is : few_steps s u j ≡ shrunk s u r.refusal (journal_steps (take (4 * r.accepted + 4) j))
      unfolding few_steps refused_row
      few_is = rw (row_steps, ran_whole) refl

      pub answer_row : (out : List ℕ) → shrink_answer s u j out
          ≡ fitted (journal_bytes (shrunk s u r.refusal (journal_steps (take (4 * r.accepted + 4) j)))) (length (shrunk s u r.refusal (journal_steps (take (4 * r.accepted + 4) j)))) out
      answer_row out = rw (← few_is) (answer_fitted out z (λ y. h (rw ran_whole y)))

  -- how large the answers are
  long_below : first_failing (long_tests s u j) < 38
  unfolding long_tests call_tests sheet_tests array_tests setup_tests
  long_below = answer_below 38 (long_tests s u j) (lit< tt) refl

  few_length : length j ≤ 4096 → length (few_steps s u j) ≤ 1024
  unfolding few_steps refused_row
  few_length h =
      let n = (run s u j).accepted + 1 in
      omega (arith, shrunk_length s u (run s u j).refusal (take n (journal_steps j)), length-take n (journal_steps j), steps_bytes j)

  shrink_bounds : (out : List ℕ) → ((shrink_answer s u j out).refusal < 38) × ((shrink_answer s u j out).count ≤ 1024)
  shrink_bounds out =
      split (eqb (first_failing (long_tests s u j)) 0)
      (λ y.
      let z = eqb-true (first_failing (long_tests s u j)) 0 y in
      split (eqb (run s u j).refusal 0)
      (λ x. let w = answer_none out z (eqb-true (run s u j).refusal 0 x) in rw (← w.0, ← w.1.0) (lit< tt, lit≤ tt))
      (λ x.
      let w = fitted_bounds (journal_bytes (few_steps s u j)) out (length (few_steps s u j)) in
      rw (answer_fitted out z (eqb-false (run s u j).refusal 0 x)) (omega (arith, w.0), omega (arith, w.1, few_length (calls_short z)))))
      (λ y.
      let w = answer_long out (first_failing (long_tests s u j)) refl (eqb-false (first_failing (long_tests s u j)) 0 y) in
      rw (← w.0, ← w.1.0) (long_below, lit≤ tt))

  -- the same of what the code found
  pub shrunk_bounds : (out : List ℕ) (number count : ℕ) (after : List ℕ) → Gives number count after (shrink_answer s u j out) → (number < 38) × (count ≤ 1024)
  shrunk_bounds out number count after w = rw (w.0, w.1.0) (shrink_bounds out)
