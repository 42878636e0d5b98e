-- The set of the signatures that can be given.
use Rattle.std.proofs.Common.{rules, tests}
use Rattle.laws.specs.Calls.{set_of}
use Rattle.readings.proofs.open.give_set.Goals as goal

pub returns : goal.returns
returns c = rw (← c.signatures.ensures, ← c.from-n.ensures) (set_of _ _ _ _ (search rules) c.below.ensures (λ k b l e. search (rules, tests)))
