-- The table's entries are the holders.
use Rattle.std.proofs.Common.{rules}
use Rattle.laws.proofs.Prelude.{arith}
use Rattle.claim_history.proofs.Holders.{holders_of}
use Rattle.claim_history.proofs.held.holders_by.Goals as goal

pub returns : goal.returns
returns c = holders_of _ _ _ _ (omega arith) (rw c.count.ensures.is at c.filled.ensures) (λ k v l e. search rules)
