-- Those below the count that enter.
use Rattle.std.proofs.Common.{rules, tests}
use Rattle.laws.specs.Calls.{set_of}
use Rattle.steps.proofs.bumped.entering.Goals as goal

pub returns : goal.returns
returns c = rw (← c.count.ensures.is, ← c.line_of-line.ensures) (set_of _ _ _ _ (search rules) c.below.ensures (λ k b l e. search (rules, tests)))
