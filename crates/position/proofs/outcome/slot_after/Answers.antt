-- What it makes of it, or what was there.
use Rattle.laws.specs.Booleans.{tests}
use Rattle.position.proofs.outcome.slot_after.Goals as goal

pub returns-then-refusal-eq0 : goal.returns-then-refusal-eq0
returns-then-refusal-eq0 c = simp (tests, c.if-refusal-eq0.true)

pub returns : goal.returns
returns c = simp (tests, c.if-refusal-eq0.false)
