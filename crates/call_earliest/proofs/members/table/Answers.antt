-- The blocks of all transactions.
use Rattle.std.proofs.Common.{rules, tests}
use Rattle.call_earliest.specs.Forms.Table.{table}
use Rattle.call_earliest.proofs.Rows.{filled_by}
use Rattle.call_earliest.proofs.members.table.Goals as goal

pub returns : goal.returns
unfolding table
returns c = rw (← c.count.ensures.is) (filled_by _ _ _ _ _ _ (search rules) c.filled.ensures (λ k v l e. search (rules, tests)))
