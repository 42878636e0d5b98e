-- The head is there: check 1.
use Rattle.sheet.proofs.Passed.{headless}
use Rattle.laws.proofs.Prelude.{sym}
use Rattle.sheet.specs.Check.{head_right}
use Rattle.sheet.proofs.check.head_right.Goals as goal

pub returns-then-sheet-lt5 : goal.returns-then-sheet-lt5
returns-then-sheet-lt5 c = sym (headless _ c.if-sheet-lt5.true)

pub returns : goal.returns
unfolding head_right
returns c = rw c.arrays.ensures.is
