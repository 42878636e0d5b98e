-- 1 to 8 signatures, and the masks of the head: check 3.
use Rattle.sheet.specs.Check.{signatures_right}
use Rattle.laws.proofs.Prelude.{tests}
use Rattle.sheet.proofs.check.signatures_right.Goals as goal

pub returns-then-s-lt1 : goal.returns-then-s-lt1
unfolding signatures_right
returns-then-s-lt1 c = simp (tests, ← c.signatures-s.ensures, c.if-s-lt1.true)

pub returns-then-s-gt8 : goal.returns-then-s-gt8
unfolding signatures_right
returns-then-s-gt8 c = simp (tests, ← c.signatures-s.ensures, c.if-s-lt1.false, c.if-s-gt8.true)

pub returns : goal.returns
unfolding signatures_right
returns c = simp (tests, ← c.signatures-s.ensures, c.if-s-lt1.false, c.if-s-gt8.false, ← c.masks_right.ensures)
