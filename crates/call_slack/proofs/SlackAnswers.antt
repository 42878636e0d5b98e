-- The answers of slack, case by case.
-- Assumes nothing.
use Rattle.laws.proofs.Prelude.{ℕ, ◌*◌, ◌≤◌, ◌<◌, ◌≡◌, ◌∙◌, List, length, arith}
use Rattle.laws.specs.Over.{over}
use Rattle.sheet.specs.Field.{parties}
use Rattle.sheet.specs.Refusal.{accepted, buffer_short}
use Rattle.sheet.specs.Checked.{Checked}
use Rattle.position.specs.declared.Ran.{Ran}
use Rattle.position.specs.Play.{run}
use Rattle.position.specs.Answers.{pass_on}
use Rattle.position.proofs.Passing.{not_passed_on, passed_short, passed_whole}
use Rattle.step_laws.proofs.Wellformeds.{wellformed_run}
use Rattle.call_run.proofs.Bounds.{written_bounds}
use Rattle.call_slack.specs.Row.{slack_bytes}
use Rattle.call_slack.specs.Answer.{slack_answer}
use Rattle.call_slack.proofs.RowLengths.{rows_length}

-- where r is what the code found
module _ (s u j : List ℕ) (r : Ran) (e : r ≡ run s u j) (out : List ℕ) where
  abbrev rows : List ℕ
  rows = slack_bytes s u r.position

  pub is_slack : slack_answer s u j out ≡ pass_on r rows 0 out
  unfolding slack_answer
  is_slack = rw e

  pub slack_refused : (r.refusal ≡ 0 → ⊥) → slack_answer s u j out ≡ record { refusal = r.refusal; count = 0; buffer = out }
  slack_refused h = is_slack ∙ not_passed_on r rows out 0 h

  pub slack_short : r.refusal ≡ 0 → length out < 8 * parties s → slack_answer s u j out ≡ record { refusal = buffer_short; count = 0; buffer = out }
  slack_short z l = is_slack ∙ passed_short r rows out 0 z (rw (rows_length s u r.position) l)

  pub slack_whole : r.refusal ≡ 0 → 8 * parties s ≤ length out → slack_answer s u j out ≡ record { refusal = accepted; count = 0; buffer = over rows out }
  slack_whole z l = is_slack ∙ passed_whole r rows out 0 z (rw (rows_length s u r.position) l)

-- a journal mines few blocks
pub mined_few : (s u j : List ℕ) → Checked s → (r : Ran) → r ≡ run s u j → r.position.mined < 65535
mined_few s u j ok r e = let few = (wellformed_run s u ok j).mined in rw e (omega (arith, few))

-- the number of a slack
pub slack_below : (s u j : List ℕ) (out : List ℕ) → (slack_answer s u j out).refusal < 33
unfolding slack_answer
slack_below s u j out = (written_bounds s u j (slack_bytes s u (run s u j).position) out 0).0
