-- The two tests of a length.
use Rattle.laws.specs.Booleans.{tests}
use Rattle.call_ask.specs.Ask.{length_right}
use Rattle.call_ask.proofs.ask.length_right.Goals as goal

pub returns-then-n-ne0 : goal.returns-then-n-ne0
unfolding length_right
returns-then-n-ne0 c = simp (tests, c.if-n-ne0.true)

pub returns : goal.returns
unfolding length_right
returns c = simp c.if-n-ne0.false
