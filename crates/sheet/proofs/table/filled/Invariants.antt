-- An entry at each place below k.
use Rattle.laws.specs.Calls.{TableOf}
use Rattle.sheet.proofs.table.filled.Given as goal

abbrev pub invariant-loop-k : goal.invariant-loop-k
invariant-loop-k g l = TableOf (goal.F-post g l.entry) g.row.N l.k l.fn.rest l.table
