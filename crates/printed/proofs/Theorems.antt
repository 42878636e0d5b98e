-- What swapreport prints after its first line: what `transaction_line` reads from a report is the rules' line.
-- Assumes nothing.
use Rattle.laws.proofs.Prelude.{ℕ, suc, ◌*◌, ◌<◌, ◌≡◌, refl, ap, ◌∙◌, List, [], ◌∷◌, lit<, get_or, take, eq-eqb, arith, gather, gather_at}
use Rattle.position.proofs.Rules.{accepted, count, row_width, reported_line, run, printed_line}
use Rattle.position.specs.Printed.{printed_lines, printed}
use Rattle.dated.specs.Report.{report_answer}
use Rattle.dated.proofs.ReportAnswers.{counts_after, report_run, report_buffer}
use Rattle.step_laws.proofs.Reports.{line_read}
use Rattle.printed.proofs.Lines.{printed_accepted}

module _ (s u j : List ℕ) where
  -- the line of t is the one that is read from the rows of a report that answers 0, whatever their counts
  pub line_reported : (out : List ℕ) (t : ℕ) → (report_answer s u j out).refusal ≡ accepted → t < count s
      → get_or (printed s u j) (suc t) [] ≡ reported_line (take (row_width * count s) (report_answer s u j out).buffer) t
  unfolding printed_lines
  line_reported out t e l =
      let lines : ℕ → List (List ℕ) = λ k. printed_line s u (run s u j).position k ∷ [] in
      rw (printed_accepted s u j (eq-eqb (run s u j).refusal accepted (report_run s u j out e)), report_buffer s u j out e, line_read s u (run s u j).position (counts_after s u j) t l)
      (ap (λ i. get_or (gather (count s) lines) i []) (omega arith) ∙ gather_at lines 1 (λ k. refl) (count s) t 0 [] l (lit< tt))
