-- What the call outage answers: the number, and the buffer afterwards.
-- Assumes nothing.
use Rattle.std.specs.Prelude.{ℕ, List}
use Rattle.position.specs.Play.{run}
use Rattle.position.specs.Answers.{Written, pass_on}
use Rattle.call_outage.specs.Verdict.{outage_bytes}

-- a journal's refusal is passed on, 25 is tested last
unfoldable pub outage_answer : List ℕ → List ℕ → List ℕ → ℕ → List ℕ → Written
outage_answer s u j blocks out =
    let r = run s u j in
    let bytes = outage_bytes s u r.position blocks in
    pass_on r bytes 0 out
