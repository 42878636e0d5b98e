-- Holders read from the report of a list's accepted steps are those of the position after the list.
-- Assumes nothing.
use Rattle.laws.proofs.Prelude.{ℕ, ◌*◌, ◌≡◌, List, take}
use Rattle.position.proofs.Rules.{accepted, count, row_width, reported_holder, start, FourBytes, journal_bytes, play, accepted_of, holder_in}
use Rattle.dated.specs.Report.{report_answer}
use Rattle.dated.proofs.ReportAnswers.{counts_after, report_run, report_buffer}
use Rattle.step_laws.proofs.Journals.{run_position}
use Rattle.step_laws.proofs.ReportHolders.{reported_holder_lem}

pub answered_holder : (s u : List ℕ) (bs : List FourBytes) (out : List ℕ) → (report_answer s u (journal_bytes (accepted_of s u bs (start s))) out).refusal ≡ accepted
    → (coin : ℕ) → reported_holder s (take (row_width * count s) (report_answer s u (journal_bytes (accepted_of s u bs (start s))) out).buffer) coin ≡ holder_in s (play s u bs (start s)) coin
answered_holder s u bs out e coin =
    let j = journal_bytes (accepted_of s u bs (start s)) in
    rw (report_buffer s u j out e, run_position s u bs (report_run s u j out e))
    (reported_holder_lem s u (play s u bs (start s)) (counts_after s u j) coin)
