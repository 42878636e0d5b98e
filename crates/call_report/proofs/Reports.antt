-- The answers of a report, case by case.
-- Assumes nothing.
use Rattle.laws.proofs.Prelude.{ℕ, ◌*◌, ◌≤◌, ◌<◌, ◌≡◌, ◌∙◌, List, length, first_failing, over}
use Rattle.position.proofs.Rules.{count, accepted, buffer_short, row_width, call_tests, report_bytes, pass_on}
use Rattle.position.proofs.ReportLengths.{report_length}
use Rattle.position.proofs.Passing.{not_passed_on, passed_short, passed_whole}
use Rattle.dated.specs.Dated.{unseen, dated_run, forgotten, DatedRun}
use Rattle.dated.specs.Report.{rows_of, report_answer}
use Rattle.dated.proofs.ReportAnswers.{rows_after, report_as}
use Rattle.call_run.proofs.Bounds.{written_bounds}
use Rattle.call_report.proofs.DatedRuns.{ran_refused}

-- where r is what the code found
module _ (s u j : List ℕ) (r : DatedRun) (e : r ≡ dated_run s u j) (out : List ℕ) where
  abbrev rows : List ℕ
  rows = report_bytes s u r.dated.position r.dated.opened

  is_report : report_answer s u j out ≡ pass_on (forgotten r) rows 0 out
  unfolding report_answer rows_of
  is_report = rw e

  long : length rows ≡ row_width * count s
  long = report_length s u r.dated.position r.dated.opened

  pub report_refused : (r.refusal ≡ 0 → ⊥) → report_answer s u j out ≡ record { refusal = r.refusal; count = 0; buffer = out }
  unfolding forgotten
  report_refused h = is_report ∙ not_passed_on (forgotten r) rows out 0 h

  pub report_short : r.refusal ≡ 0 → length out < row_width * count s → report_answer s u j out ≡ record { refusal = buffer_short; count = 0; buffer = out }
  unfolding forgotten
  report_short z l = is_report ∙ passed_short (forgotten r) rows out 0 z (rw long l)

  pub report_whole : r.refusal ≡ 0 → row_width * count s ≤ length out → report_answer s u j out ≡ record { refusal = accepted; count = 0; buffer = over rows out }
  unfolding forgotten
  report_whole z l = is_report ∙ passed_whole (forgotten r) rows out 0 z (rw long l)

-- a call that is refused before any step
pub call_refused : (s u j out : List ℕ) (n : ℕ) → n ≡ first_failing (call_tests s u j) → (n ≡ 0 → ⊥) → report_answer s u j out ≡ record { refusal = n; count = 0; buffer = out }
call_refused s u j out n e h = report_refused s u j (record { refusal = n; accepted = 0; dated = unseen s }) (ran_refused s u j n e h) out h

-- the number of a report
pub report_below : (s u j out : List ℕ) → (report_answer s u j out).refusal < 33
report_below s u j out = rw (report_as s u j out) (written_bounds s u j (rows_after s u j) out 0).0
