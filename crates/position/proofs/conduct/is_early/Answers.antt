-- The party, and the two heights.
use Rattle.laws.specs.Booleans.{tests}
use Rattle.position.specs.Forms.FirstShares.{is_early}
use Rattle.position.proofs.conduct.is_early.Goals as goal

pub returns-then-party-ge2 : goal.returns-then-party-ge2
unfolding is_early
returns-then-party-ge2 c = simp (tests, c.if-party-ge2.true)

pub returns-then-a-ne0 : goal.returns-then-a-ne0
unfolding is_early
returns-then-a-ne0 c = simp (tests, c.if-party-ge2.false, c.if-a-ne0.true)

pub returns : goal.returns
unfolding is_early
returns c = simp (tests, c.if-party-ge2.false, c.if-a-ne0.false)
