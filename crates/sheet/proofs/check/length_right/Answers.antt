-- The length that the head announces: check 4.
use Rattle.sheet.specs.Check.{length_right}
use Rattle.sheet.proofs.check.length_right.Goals as goal

pub returns : goal.returns
unfolding length_right
returns c = rw (c.count.ensures.is, c.arrays.ensures.is)
