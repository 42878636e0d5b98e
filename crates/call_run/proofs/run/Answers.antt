-- The rest starts within the journal.
use Rattle.laws.proofs.Prelude.{to_end}
use Rattle.position.specs.Answers.{run_part}
use Rattle.call_run.proofs.Bounds.{ran_bounds}
use Rattle.call_run.proofs.run.Goals as goal

pub slice_bounds-result-count : goal.slice_bounds-result-count
unfolding run_part
slice_bounds-result-count c = (ran_bounds _ _ _ _ c.ran-ran.ensures).1

pub slice_bounds-result-start : goal.slice_bounds-result-start
unfolding run_part
slice_bounds-result-start c = (ran_bounds _ _ _ _ c.ran-ran.ensures).1

pub returns : goal.returns
unfolding run_part
returns c = record { result_value = rw (to_end, c.ran-ran.ensures); refusal_after = rw c.ran-ran.ensures; accepted_after = rw c.ran-ran.ensures }
