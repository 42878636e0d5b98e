-- The report's answer by the model's run and the counts.
-- Assumes nothing.
use Rattle.laws.proofs.Prelude.{ℕ, ◌*◌, ◌≡◌, sym, ap, ◌∙◌, List, length, take}
use Rattle.position.proofs.Rules.{accepted, count, row_width, run, report_bytes, Written, pass_on}
use Rattle.position.specs.declared.Ran.{Ran}
use Rattle.position.proofs.ReportLengths.{report_length}
use Rattle.position.proofs.Passing.{answer_run, answer_buffer}
use Rattle.dated.specs.Dated.{dated_run, forgotten}
use Rattle.dated.specs.Report.{rows_of, report_answer}
use Rattle.dated.proofs.Forgetting.{forgotten_run}

module _ (s u j : List ℕ) where
  -- the counts after a journal
  abbrev pub counts_after : List ℕ
  counts_after = (dated_run s u j).dated.opened

  -- the report's bytes, where the run's position is the model's
  abbrev pub rows_after : List ℕ
  rows_after = report_bytes s u (run s u j).position counts_after

  rows_after_lem : rows_of s u (dated_run s u j) ≡ rows_after
  unfolding rows_of forgotten
  rows_after_lem = ap (λ (r : Ran). report_bytes s u r.position counts_after) forgotten_run'
    where
      forgotten_run' : forgotten (dated_run s u j) ≡ run s u j
      forgotten_run' = forgotten_run s u j

  pub report_as : (out : List ℕ) → report_answer s u j out ≡ pass_on (run s u j) rows_after 0 out
  unfolding report_answer
  report_as out = rw (forgotten_run s u j, rows_after_lem)

  pub rows_length : length rows_after ≡ row_width * count s
  rows_length = report_length s u (run s u j).position counts_after

-- a report that answers 0: its run was not refused, and the buffer afterwards starts with its bytes
module _ (s u j out : List ℕ) (e : (report_answer s u j out).refusal ≡ accepted) where
  passes : (pass_on (run s u j) (rows_after s u j) 0 out).refusal ≡ accepted
  passes = ap (λ (w : Written). w.refusal) (sym (report_as s u j out)) ∙ e

  pub report_run : (run s u j).refusal ≡ accepted
  report_run = answer_run (run s u j) (rows_after s u j) out 0 passes

  pub report_buffer : take (row_width * count s) (report_answer s u j out).buffer ≡ rows_after s u j
  report_buffer =
      rw (report_as s u j out, ← (rows_length s u j)) (answer_buffer (run s u j) (rows_after s u j) out 0 passes)
