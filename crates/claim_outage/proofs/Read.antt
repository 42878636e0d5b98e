-- The byte that a caller reads is the verdict on the position that the journal leads to.
-- Assumes nothing.
use Rattle.laws.proofs.Prelude.{ℕ, zero, suc, ◌+◌, ◌*◌, ◌≤◌, ◌<◌, ◌≡◌, refl, sym, ap, ◌∙◌, List, [], ◌∷◌, eqb, length, get_or, eq-eqb, arith, not-suc-le-zero}
use Rattle.laws.proofs.Prelude.{le_of_suc-le-suc, add-zero, split, clash, first_failing, gather_at, over}
use Rattle.position.proofs.Rules.{accepted, byte, count, sheet_refusal, setup_refusal, start, FourBytes, journal_steps, step, run_from, call_tests, run, play}
use Rattle.position.specs.declared.Position.{Position}
use Rattle.position.specs.declared.Ran.{Ran}
use Rattle.position.proofs.Rules.{Written, pass_on}
use Rattle.position.proofs.Passing.{passed_on, fitted_room, answer_run}
use Rattle.call_run.proofs.Runs.{run_allowed, run_checked}
use Rattle.position.proofs.RowSteps.{run_next, run_stops, run_ends, play_next}
use Rattle.call_run.proofs.Calls.{sheet_passes, setup_passes}
use Rattle.call_outage.specs.Verdict.{verdict, outage_row, outage_bytes}
use Rattle.call_outage.specs.Answer.{outage_answer}
use Rattle.call_outage.proofs.RowLengths.{row_length, rows_length}
use Rattle.call_outage.proofs.OutageAnswers.{is_outage, outage_whole}

-- an element of the front is what was written there
get_d_over : (w l : List ℕ) (i : ℕ) → i < length w → length w ≤ length l → get_or (over w l) i 0 ≡ get_or w i 0
unfolding over
get_d_over [] l i h f = absurd (not-suc-le-zero h)
get_d_over (x ∷ w) [] i h f = absurd (not-suc-le-zero f)
get_d_over (x ∷ w) (y ∷ l) zero h f = refl
get_d_over (x ∷ w) (y ∷ l) (suc i) h f = get_d_over w l i (le_of_suc-le-suc h) (le_of_suc-le-suc f)

-- a run that refuses nothing plays all its steps
run_plays : (s u : List ℕ) (bs : List FourBytes) (c : ℕ) (p : Position) → (run_from s u bs c p).refusal ≡ accepted → (run_from s u bs c p).position ≡ play s u bs p
unfolding play
run_plays s u [] c p z = rw (run_ends s u c p)
run_plays s u (b ∷ bs) c p z =
    split (eqb (step s u p b).refusal accepted)
    (λ y. rw (run_next s u b bs c p y, play_next s u b bs p) (run_plays s u bs (c + 1) (step s u p b).position (rw (run_next s u b bs c p y) at z)))
    (λ y. clash (eq-eqb (step s u p b).refusal accepted (rw (run_stops s u b bs c p y) at z)) y)

module _ (s u j : List ℕ) (blocks : ℕ) (out : List ℕ) (a : (outage_answer s u j blocks out).refusal ≡ accepted) where
  abbrev ran : Ran
  ran = run s u j

  abbrev rows : List ℕ
  rows = outage_bytes s u ran.position blocks

  passes : (pass_on ran rows 0 out).refusal ≡ accepted
  passes = rw (is_outage s u j ran refl blocks out) at a

  pub run_taken : ran.refusal ≡ accepted
  run_taken = answer_run ran rows out 0 passes

  room : 10 * count s ≤ length out
  room = rw (rows_length s u ran.position blocks) at (fitted_room rows out 0 (rw (passed_on ran rows out 0 run_taken) at passes))

  pub verdict_read : (t : ℕ) → t < count s → byte (outage_answer s u j blocks out).buffer (10 * t) ≡ verdict s u ran.position blocks t
  unfolding outage_bytes outage_row
  verdict_read t l =
      let n = rows_length s u ran.position blocks in
      let r = room in
      ap (λ (w : Written). byte w.buffer (10 * t)) (outage_whole s u j ran refl blocks out run_taken room)
      ∙ get_d_over rows out (10 * t) (omega arith) (omega arith)
      ∙ ap (λ i. get_or rows i 0) (sym (add-zero (10 * t)))
      ∙ gather_at (outage_row s u ran.position blocks) 10 (row_length s u ran.position blocks) (count s) t 0 0 l (omega arith)

  -- the checks before any step passed
  calls : first_failing (call_tests s u j) ≡ 0
  calls = run_checked s u j run_taken

  pub sheet_right : sheet_refusal s ≡ accepted
  sheet_right = sheet_passes s u j calls

  pub setup_right : setup_refusal s u ≡ accepted
  setup_right = setup_passes s u j calls

  pub position_played : ran.position ≡ play s u (journal_steps j) (start s)
  position_played =
      let e = run_allowed s u j calls in
      rw e (run_plays s u (journal_steps j) 0 (start s) (rw e at run_taken))
