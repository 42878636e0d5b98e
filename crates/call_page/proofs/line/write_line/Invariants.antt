-- The columns before k; then the end of the line.
use Rattle.laws.proofs.Prelude.{Turns}
use Rattle.position.proofs.Rules.{reported_line}
use Rattle.call_page.specs.Forms.Cell.{cell}
use Rattle.call_page.proofs.line.write_line.Given as goal

abbrev pub invariant-loop-k : goal.invariant-loop-k
invariant-loop-k l = Turns (cell (reported_line l.report) l.i) 6 l.initial.out l.out l.at l.k
