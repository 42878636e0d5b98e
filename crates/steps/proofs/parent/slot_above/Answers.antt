-- The parent's number, or 0.
use Rattle.laws.proofs.Prelude.{tests, rules}
use Rattle.steps.specs.Forms.Parent.{slot_above}
use Rattle.steps.proofs.parent.slot_above.Goals as goal

pub returns-then-up-lt32 : goal.returns-then-up-lt32
unfolding slot_above
returns-then-up-lt32 c = (simp (tests, ← c.parent-up.ensures.is, c.if-up-lt32.true), search rules)

pub returns : goal.returns
unfolding slot_above
returns c = (simp (tests, ← c.parent-up.ensures.is, c.if-up-lt32.false), search rules)
