-- Below the count, and right for the destination.
use Rattle.laws.proofs.Prelude.{tests}
use Rattle.steps.proofs.decode.listed_share.Goals as goal

pub returns-then-k-count : goal.returns-then-k-count
returns-then-k-count c = simp (tests, ← c.from-k.ensures, ← c.count.ensures.is, c.if-k-count.true, ← c.shares_to.ensures)

pub returns : goal.returns
returns c = simp (tests, ← c.from-k.ensures, ← c.count.ensures.is, c.if-k-count.false)
