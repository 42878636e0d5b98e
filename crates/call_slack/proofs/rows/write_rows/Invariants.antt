-- The rows of the parties in the places before k.
use Rattle.call_slack.proofs.RowLengths.{row_at}
use Rattle.laws.specs.Wrote.{Turns}
use Rattle.laws.proofs.Prelude.{◌*◌}
use Rattle.sheet.specs.Field.{parties}
use Rattle.call_slack.proofs.rows.write_rows.Given as goal

abbrev pub invariant-loop-k : goal.invariant-loop-k
invariant-loop-k l =
    Turns (row_at l.sheet.bytes l.setup l.position) (parties l.sheet.bytes) l.initial.out l.out (8 * l.k) l.k
