-- The claims: order and ending, the same refusal, and nothing that could still go.
-- Assumes nothing.
use Rattle.laws.proofs.Prelude.{ℕ, suc, ◌+◌, ◌%◌, ◌≤◌, ◌<◌, ◌≡◌, refl, ◌∙◌, true, false, List, [], ◌∷◌, ◌++◌, append_assoc, append-nil, ◌⊎◌, inl, inr, eqb, length, get_or}
use Rattle.laws.proofs.Prelude.{take, drop, length-append, length-drop, eqb-true, eqb-false, eq-eqb, le-leb, arith, length-take, split, clash, first_failing}
use Rattle.laws.proofs.Prelude.{passed_append, over, take_over}
use Rattle.position.proofs.Rules.{accepted, journal_length, array_tests, sheet_tests, sheet_refusal, setup_tests, setup_refusal, start, FourBytes, journal_steps, journal_bytes}
use Rattle.position.proofs.Rules.{run_from, journal_right, call_tests, run, fitted}
use native.Mathlib.Numerals.{add-one}
use mathlib.Core.List.Sublistᴰ
use mathlib.Core.List.{Sublistᴰ}
use lib.Seq.{take-suc, drop-cons}
use Rattle.position.proofs.Passing.{written, fitted_room}
use Rattle.step_laws.proofs.Journals.{journal_steps_lem, journal_length_lem}
use Rattle.call_run.proofs.Calls.{sheet_passes, setup_passes}
use Rattle.call_run.proofs.Runs.{run_allowed}
use Rattle.call_run.proofs.Bounds.{steps_bytes}
use Rattle.call_shrink.specs.Shrink.{still_refused, can_go, round_from, round, rounds, shrunk, refused_row, few_steps, long_tests, shrink_answer}
use Rattle.call_shrink.specs.Claim.{RunsUpTo, without, Few, WroteFew}
use Rattle.call_shrink.proofs.Rows.{still_parts, parts_still}
use Rattle.call_shrink.proofs.Rounding.{round_drops, round_keeps, round_ends, next_still, next_length, next_fixed, next_same, rounds_enough, shrunk_end, shrunk_keeps}
use Rattle.call_shrink.proofs.Refused.{cut, cut_still}
use Rattle.call_shrink.proofs.Answering.{shrunk_length, calls_pass, calls_short, answer_long, answer_none, answer_fitted}

-- a row that ends with this step, behind steps of these in their order
record Shape (x : FourBytes) (steps row : List FourBytes) : Type 0 where
  pub before : List FourBytes
  pub ends : row ≡ before ++ (x ∷ [])
  pub order : Sublistᴰ before steps

module _ (s u : List ℕ) (number : ℕ) (x : FourBytes) where
  last_stays : (kept : List FourBytes) → can_go s u number kept [] ≡ false
  unfolding can_go
  last_stays kept = refl

  -- one step less among the others
  less : (kept r : List FourBytes) (b : FourBytes) → Sublistᴰ (kept ++ r) (kept ++ (b ∷ r))
  less kept r b = Sublistᴰ.append (Sublistᴰ.refl kept) (Sublistᴰ.cons (Sublistᴰ.refl r))

  round_shape : (kept r : List FourBytes) → Shape x (kept ++ r) (round_from s u number kept (r ++ (x ∷ [])))
  round_shape kept [] =
      record { before = kept; ends = round_keeps s u number kept [] x (last_stays kept) ∙ round_ends s u number (kept ++ (x ∷ [])); order = rw (append-nil kept) (Sublistᴰ.refl kept) }
  round_shape kept (b ∷ r) =
      split (can_go s u number kept (r ++ (x ∷ [])))
      (λ e.
      let w = round_shape kept r in
      record { before = w.before; ends = round_drops s u number kept (r ++ (x ∷ [])) b e ∙ w.ends; order = Sublistᴰ.trans w.order (less kept r b) })
      (λ e.
      let w = round_shape (kept ++ (b ∷ [])) r in
      record { before = w.before; ends = round_keeps s u number kept (r ++ (x ∷ [])) b e ∙ w.ends; order = rw (append_assoc kept (b ∷ []) r) at w.order })

  next_shape : (steps row : List FourBytes) → Shape x steps row → Shape x steps (round s u number row)
  unfolding round
  next_shape steps row w =
      let v = round_shape [] w.before in
      record { before = v.before; ends = rw w.ends v.ends; order = Sublistᴰ.trans v.order w.order }

-- ---- a row as a journal
module _ (s u j : List ℕ) (z : first_failing (call_tests s u j) ≡ 0) where
  again : (w : List ℕ) → journal_right w ≡ true → first_failing (call_tests s u w) ≡ 0
  unfolding sheet_refusal setup_refusal sheet_tests array_tests setup_tests call_tests first_failing
  again w e =
      passed_append (sheet_tests s) (setup_tests s u ++ ((journal_length, journal_right w) ∷ [])) refl (sheet_passes s u j z)
      ∙ passed_append (setup_tests s u) ((journal_length, journal_right w) ∷ []) refl (setup_passes s u j z)
      ∙ rw e

  right : (row : List FourBytes) → length row ≤ 1024 → journal_right (journal_bytes row) ≡ true
  unfolding journal_right
  right row h =
      let l = journal_length_lem row in
      rw (eq-eqb (length (journal_bytes row) % 4) 0 (omega (arith, l)), le-leb (length (journal_bytes row)) 65536 (omega (arith, l)))

  row_run : (row : List FourBytes) → length row ≤ 1024 → run s u (journal_bytes row) ≡ run_from s u row 0 (start s)
  row_run row h = run_allowed s u (journal_bytes row) (again (journal_bytes row) (right row h)) ∙ rw (journal_steps_lem row) refl

  runs_still : (number : ℕ) (row : List FourBytes) → length row ≤ 1024 → still_refused s u number (start s) row ≡ true → RunsUpTo s u number row
  runs_still number row h e =
      let w = still_parts s u number row (start s) e in
      record { gets = rw (row_run row h) w.0; at_last = rw (row_run row h) w.1 }

  still_runs : (number : ℕ) (row : List FourBytes) → length row ≤ 1024 → RunsUpTo s u number row → still_refused s u number (start s) row ≡ true
  still_runs number row h w =
      let e = row_run row h in
      parts_still s u number row (start s) (rw e at w.gets) (rw e at w.at_last)

without_length : (i : ℕ) (row : List FourBytes) → length (without i row) ≤ length row
without_length i row =
    omega (arith, length-append (take i row) (drop (suc i) row), length-take i row, length-drop (suc i) row)

abbrev no_step : FourBytes
no_step = record { kind = 0; party = 0; transaction = 0; destination = 0 }

module _ (s u j : List ℕ) (z : first_failing (long_tests s u j) ≡ 0) (h : (run s u j).refusal ≡ 0 → ⊥) where
  ran : run s u j ≡ run_from s u (journal_steps j) 0 (start s)
  ran = run_allowed s u j (calls_pass s u j z)

  within : (run s u j).accepted < length (journal_steps j)
  within =
      let w = cut s u (journal_steps j) 0 (start s) (λ y. h (rw ran y)) in
      let k : (run s u j).accepted ≡ (run_from s u (journal_steps j) 0 (start s)).accepted = rw ran refl in
      omega (arith, k, w.counted, w.within)

  row_length : length (refused_row s u j) ≤ 1024
  unfolding refused_row
  row_length = omega (arith, length-take ((run s u j).accepted + 1) (journal_steps j), steps_bytes j, calls_short s u j z)

  row_still : still_refused s u (run s u j).refusal (start s) (refused_row s u j) ≡ true
  unfolding refused_row
  row_still = rw ran (cut_still s u (journal_steps j) (run_from s u (journal_steps j) 0 (start s)).accepted (start s) (λ y. h (rw ran y)) refl)

  row_shape : Shape (get_or (journal_steps j) (run s u j).accepted no_step) (take (run s u j).accepted (journal_steps j)) (refused_row s u j)
  unfolding refused_row
  row_shape = record {
    before = take (run s u j).accepted (journal_steps j);
    ends = rw (add-one (run s u j).accepted)
        (take-suc (journal_steps j) (run s u j).accepted no_step within);
    order = Sublistᴰ.refl (take (run s u j).accepted (journal_steps j));
  }

  few_length : length (few_steps s u j) ≤ 1024
  unfolding few_steps
  few_length = omega (arith, shrunk_length s u (run s u j).refusal (refused_row s u j), row_length)

  pub few_steps_lem : Few s u j (few_steps s u j)
  unfolding few_steps
  few_steps_lem =
      let row = refused_row s u j in
      let part = shrunk s u (run s u j).refusal row in
      let v = shrunk_keeps s u (run s u j).refusal (λ r. Shape (get_or (journal_steps j) (run s u j).accepted no_step)
      (take (run s u j).accepted (journal_steps j)) r) (next_shape s u (run s u j).refusal
      (get_or (journal_steps j) (run s u j).accepted no_step) (take (run s u j).accepted (journal_steps j))) row row_shape in
      let e = shrunk_keeps s u (run s u j).refusal (λ r. still_refused s u (run s u j).refusal (start s) r ≡ true) (next_still s u (run s u j).refusal) row row_still in
      let c = calls_pass s u j z in
      let f = next_fixed s u (run s u j).refusal part (shrunk_end s u (run s u j).refusal row) in
      record {
        before = v.before;
        refused = get_or (journal_steps j) (run s u j).accepted no_step;
        ends = v.ends;
        order = v.order;
        is_refused = drop-cons (journal_steps j) (run s u j).accepted no_step within;
        runs = runs_still s u j c (run s u j).refusal part few_length e;
        needed = λ i m w. clash (still_runs s u j c (run s u j).refusal (without i part) (omega (arith, without_length i part, few_length)) w) (f.needed i m);
      }

-- ---- what was written
module _ (s u j out : List ℕ) (e : (shrink_answer s u j out).refusal ≡ 0) where
  tests_pass : first_failing (long_tests s u j) ≡ 0
  tests_pass =
      split (eqb (first_failing (long_tests s u j)) 0)
      (λ y. eqb-true (first_failing (long_tests s u j)) 0 y)
      (λ y. let n = eqb-false (first_failing (long_tests s u j)) 0 y in absurd (n ((answer_long s u j out (first_failing (long_tests s u j)) refl n).0 ∙ e)))

  some_refused : (run s u j).refusal ≡ 0 → ⊥
  some_refused y = eqb-false 37 0 refl ((answer_none s u j out tests_pass y).0 ∙ e)

  abbrev few_row : List FourBytes
  few_row = few_steps s u j

  is_fitted : shrink_answer s u j out ≡ fitted (journal_bytes few_row) (length few_row) out
  is_fitted = answer_fitted s u j out tests_pass some_refused

  fits : length (journal_bytes few_row) ≤ length out
  fits = fitted_room (journal_bytes few_row) out (length few_row) (rw is_fitted at e)

  is_written : shrink_answer s u j out ≡ record { refusal = accepted; count = length few_row; buffer = over (journal_bytes few_row) out }
  is_written = is_fitted ∙ written (journal_bytes few_row) out (length few_row) fits

  pub few_written : WroteFew s u j (shrink_answer s u j out)
  few_written =
      let t = take_over (journal_bytes few_row) out fits in
      record {
        part = few_row;
        count = rw is_written refl;
        bytes = rw is_written (rw (← (journal_length_lem few_row)) t);
        few = few_steps_lem s u j tests_pass some_refused;
      }

-- ---- the rounds
pub rounds_end : (s u : List ℕ) (number : ℕ) (row : List FourBytes)
    → ((round s u number row ≡ row) ⊎ (length (round s u number row) < length row))
    × (round s u number (shrunk s u number row) ≡ shrunk s u number row)
    × ((k : ℕ) → rounds s u number (length row + k) row ≡ shrunk s u number row)
unfolding shrunk
rounds_end s u number row = (
  split (eqb (length (round s u number row)) (length row))
      (λ y. inl (next_same s u number row (eqb-true (length (round s u number row)) (length row) y)))
      (λ y. let n = eqb-false (length (round s u number row)) (length row) y in inr (omega (arith, next_length s u number row))),
  next_same s u number (shrunk s u number row) (shrunk_end s u number row),
  λ k. rounds_enough s u number (length row + k) (length row) row (omega arith) (omega arith),
)
