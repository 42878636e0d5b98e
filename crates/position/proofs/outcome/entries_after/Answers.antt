-- The block, or none.
use Rattle.laws.specs.Booleans.{tests}
use Rattle.position.proofs.outcome.entries_after.Goals as goal

pub returns-then-refusal-eq0 : goal.returns-then-refusal-eq0
returns-then-refusal-eq0 c = simp (tests, c.if-refusal-eq0.true)

pub returns : goal.returns
returns c = simp (tests, c.if-refusal-eq0.false)
