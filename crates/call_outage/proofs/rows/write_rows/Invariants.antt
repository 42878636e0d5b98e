-- The rows of the transactions before t.
use Rattle.call_outage.specs.Verdict.{outage_row}
use Rattle.laws.proofs.Prelude.{Turns, ◌*◌}
use Rattle.sheet.specs.Field.{count}
use Rattle.call_outage.proofs.rows.write_rows.Given as goal

abbrev pub invariant-loop-t : goal.invariant-loop-t
invariant-loop-t l =
    Turns (outage_row l.sheet.bytes l.setup l.position l.blocks) (count l.sheet.bytes) l.initial.out l.out (10 * l.t) l.t
