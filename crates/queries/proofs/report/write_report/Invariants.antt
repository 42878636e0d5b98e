-- The rows of the transactions before t.
use Rattle.laws.proofs.Prelude.{Turns}
use Rattle.position.proofs.Rules.{full_row}
use Rattle.queries.proofs.report.write_report.Given as goal

abbrev pub invariant-loop-t : goal.invariant-loop-t
invariant-loop-t l = Turns (full_row l.sheet.bytes l.setup l.position l.opened) l.n l.initial.out l.out l.at l.t
