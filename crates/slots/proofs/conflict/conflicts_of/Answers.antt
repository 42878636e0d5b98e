-- None where the set is empty; else those below the count that are found.
use Rattle.slots.proofs.ConflictSets.{conflicts_none}
use Rattle.std.proofs.Common.{rules, tests}
use Rattle.laws.specs.Calls.{set_of}
use Rattle.slots.proofs.conflict.conflicts_of.Goals as goal

pub returns-then-members-eq0 : goal.returns-then-members-eq0
returns-then-members-eq0 c = rw c.if-members-eq0.true (conflicts_none _ _)

pub returns : goal.returns
returns c = rw (← c.count.ensures.is) (set_of _ _ _ _ (search rules) c.below.ensures (λ k b l e. search (rules, tests)))
