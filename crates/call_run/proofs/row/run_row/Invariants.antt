-- What is left to do from each step on is the whole, and the view is the position's.
use Rattle.laws.proofs.Prelude.{◌≡◌}
use Rattle.position.proofs.Rules.{count, journal_steps, view_below}
use Rattle.position.specs.Forms.Owed.{DueKnown}
use Rattle.call_run.specs.Forms.Row.{run_row}
use Rattle.call_run.proofs.Rows.{left_from}
use Rattle.call_run.proofs.row.run_row.Given as goal

abbrev pub invariant-loop-k : goal.invariant-loop-k
invariant-loop-k l =
    (left_from l.asked l.sheet.bytes l.setup l.journal l.k l.position l.opened ≡ run_row l.asked l.sheet.bytes l.setup (journal_steps l.journal) 0 l.initial.position l.initial.opened) × (l.view ≡ view_below l.sheet.bytes (count l.sheet.bytes) l.position) × DueKnown l.sheet.bytes l.setup l.position l.known
