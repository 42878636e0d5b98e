-- Four bytes, and 1 to 1,000 blocks per day: check 9.
use Rattle.sheet.specs.Setup.{blocks_right}
use Rattle.laws.proofs.Prelude.{tests}
use Rattle.sheet.proofs.setup.blocks_right.Goals as goal

pub returns-then-setup-ne4 : goal.returns-then-setup-ne4
unfolding blocks_right
returns-then-setup-ne4 c = simp (tests, c.if-setup-ne4.true)

pub returns-then-blocks-ge1 : goal.returns-then-blocks-ge1
unfolding blocks_right
returns-then-blocks-ge1 c = simp (tests, c.if-setup-ne4.false, ← c.per_day-blocks.ensures, c.if-blocks-ge1.true)

pub returns-else-blocks-ge1 : goal.returns-else-blocks-ge1
unfolding blocks_right
returns-else-blocks-ge1 c = simp (tests, c.if-setup-ne4.false, ← c.per_day-blocks.ensures, c.if-blocks-ge1.false)
