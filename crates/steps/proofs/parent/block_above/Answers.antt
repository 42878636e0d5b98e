-- The height at that place, or 0.
use Rattle.laws.proofs.Prelude.{tests}
use Rattle.steps.specs.Forms.Parent.{block_above}
use Rattle.steps.proofs.parent.block_above.Goals as goal

pub returns-then-parent-lt32 : goal.returns-then-parent-lt32
unfolding block_above
returns-then-parent-lt32 c = simp (tests, ← c.parent.ensures.is, c.if-parent-lt32.true)

pub returns : goal.returns
unfolding block_above
returns c = simp (tests, ← c.parent.ensures.is, c.if-parent-lt32.false)
