-- By the coins of all.
use Rattle.std.proofs.Common.{rules, tests}
use Rattle.soonest.proofs.Tables.{filled_of}
use Rattle.prospect.proofs.Entries.{foreign_is}
use Rattle.prospect.proofs.coins.foreign.Goals as goal

pub returns : goal.returns
returns c = filled_of _ _ _ _ (rw c.count.ensures.is at c.filled.ensures) (λ k v l e. foreign_is _ _ c.coins-coins.ensures _ _ l (search (rules, tests)))
