-- The row without counts and view.
use Rattle.laws.proofs.Prelude.{ap, ◌∙◌}
use Rattle.call_run.proofs.Rows.{ran_of, row_ran}
use Rattle.call_run.proofs.journal.run_seen.Goals as goal

pub returns : goal.returns
returns c = ap ran_of c.run_row-ran.ensures ∙ row_ran _ _ _ _ _ _ _
