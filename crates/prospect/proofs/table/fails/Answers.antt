-- An entry for each.
use Rattle.std.proofs.Common.{rules, tests}
use Rattle.soonest.proofs.Tables.{filled_of}
use Rattle.prospect.proofs.table.fails.Goals as goal

pub returns : goal.returns
returns c = filled_of _ _ _ _ c.filled.ensures (λ k v l e. search (rules, tests))
