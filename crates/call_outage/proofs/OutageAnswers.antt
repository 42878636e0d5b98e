-- The answers of an outage, case by case.
-- Assumes nothing.
use Rattle.laws.proofs.Prelude.{ℕ, ◌*◌, ◌≤◌, ◌<◌, ◌≡◌, ◌∙◌, List, length, over}
use Rattle.position.proofs.Rules.{count, accepted, buffer_short, run, pass_on}
use Rattle.position.specs.declared.Ran.{Ran}
use Rattle.position.proofs.Passing.{not_passed_on, passed_short, passed_whole}
use Rattle.call_run.proofs.Bounds.{written_bounds}
use Rattle.call_outage.specs.Verdict.{outage_bytes}
use Rattle.call_outage.specs.Answer.{outage_answer}
use Rattle.call_outage.proofs.RowLengths.{rows_length}

-- where r is what the code found
module _ (s u j : List ℕ) (r : Ran) (e : r ≡ run s u j) (blocks : ℕ) (out : List ℕ) where
  abbrev rows : List ℕ
  rows = outage_bytes s u r.position blocks

  pub is_outage : outage_answer s u j blocks out ≡ pass_on r rows 0 out
  unfolding outage_answer
  is_outage = rw e

  pub outage_refused : (r.refusal ≡ 0 → ⊥) → outage_answer s u j blocks out ≡ record { refusal = r.refusal; count = 0; buffer = out }
  outage_refused h = is_outage ∙ not_passed_on r rows out 0 h

  pub outage_short : r.refusal ≡ 0 → length out < 10 * count s → outage_answer s u j blocks out ≡ record { refusal = buffer_short; count = 0; buffer = out }
  outage_short z l = is_outage ∙ passed_short r rows out 0 z (rw (rows_length s u r.position blocks) l)

  pub outage_whole : r.refusal ≡ 0 → 10 * count s ≤ length out → outage_answer s u j blocks out ≡ record { refusal = accepted; count = 0; buffer = over rows out }
  outage_whole z l = is_outage ∙ passed_whole r rows out 0 z (rw (rows_length s u r.position blocks) l)

-- the number of an outage
pub outage_below : (s u j : List ℕ) (blocks : ℕ) (out : List ℕ) → (outage_answer s u j blocks out).refusal < 33
unfolding outage_answer
outage_below s u j blocks out = (written_bounds s u j (outage_bytes s u (run s u j).position blocks) out 0).0
