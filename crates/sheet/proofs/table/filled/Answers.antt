-- An entry at each place below k.
use Rattle.laws.proofs.Prelude.{arith}
use Rattle.laws.specs.Calls.{table_of_none, table_of_more}
use Rattle.sheet.proofs.table.filled.Goals as goal

pub loop-k-init : goal.loop-k-init
loop-k-init g c = table_of_none _ _ _

pub loop-k-preserved : goal.loop-k-preserved
loop-k-preserved g c = table_of_more _ _ _ _ _ _ c.loop-k.invariant (omega (arith, c.loop-k-test.true, c.requires.n_bound)) c.entry.ensures
