-- One name that opens the definitions of this crate too, for proofs by computation: `unfolding opened-dated`.
-- Assumes nothing.
use Rattle.position.proofs.Opened as position
use Rattle.dated.specs.Opens.{at_hand, opens}
use Rattle.dated.specs.Dated.{count_of, first_open, noted, unseen, dated_start, dated_step, dated_run_from, dated_run, forgotten}
use Rattle.dated.specs.Report.{rows_of, report_answer}

unfoldable pub opened_dated : Unit {0}
unfolding position.opened at_hand opens count_of first_open noted unseen dated_start dated_step dated_run_from dated_run forgotten rows_of report_answer
opened_dated = tt
