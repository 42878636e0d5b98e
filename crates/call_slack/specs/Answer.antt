-- What the call slack answers: the number, and the buffer afterwards.
-- Assumes nothing.
use Rattle.std.specs.Prelude.{ℕ, List}
use Rattle.position.specs.Play.{run}
use Rattle.position.specs.Answers.{Written, pass_on}
use Rattle.call_slack.specs.Row.{slack_bytes}

-- a journal's refusal is passed on, 25 is tested last, "under 8 bytes for each party"; "count 0"
unfoldable pub slack_answer : List ℕ → List ℕ → List ℕ → List ℕ → Written
slack_answer s u j out =
    let r = run s u j in
    pass_on r (slack_bytes s u r.position) 0 out
