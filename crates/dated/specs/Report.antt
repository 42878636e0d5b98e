-- What the call report answers: its number, and its buffer afterwards.
-- Assumes nothing.
use Rattle.std.specs.Prelude.{ℕ, List}
use Rattle.position.specs.Report.{report_bytes}
use Rattle.position.specs.Answers.{Written, pass_on}
use Rattle.dated.specs.Dated.{dated_run, forgotten, DatedRun}

-- the rows of a run's position and counts
unfoldable pub rows_of : List ℕ → List ℕ → DatedRun → List ℕ
rows_of s u r = report_bytes s u r.dated.position r.dated.opened

-- "Check and report answer the number."; "buffer sizes in 25 follow"
unfoldable pub report_answer : List ℕ → List ℕ → List ℕ → List ℕ → Written
report_answer s u j out =
    let r = dated_run s u j in
    pass_on (forgotten r) (rows_of s u r) 0 out
