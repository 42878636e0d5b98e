-- The two cases.
use Rattle.laws.specs.Booleans.{tests}
use Rattle.prospect.proofs.locks.block_or.Goals as goal

pub returns-then-since-gt0 : goal.returns-then-since-gt0
returns-then-since-gt0 c = simp (tests, c.if-since-gt0.true, c.from.ensures)

pub returns : goal.returns
returns c = simp (tests, c.if-since-gt0.false)
