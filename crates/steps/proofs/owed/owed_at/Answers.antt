-- Waiting, outside the block, and at its deadline.
use Rattle.steps.specs.Forms.Mining.{owed_in}
use Rattle.laws.proofs.Prelude.{not-true, not-false}
use Rattle.steps.proofs.owed.owed_at.Goals as goal

pub returns-then-not-has : goal.returns-then-not-has
unfolding owed_in
returns-then-not-has c = rw (← c.has.ensures, not-true c.has.result c.if-not-has.true-raw)

pub returns-then-has : goal.returns-then-has
unfolding owed_in
returns-then-has c = rw (← c.has.ensures, not-false c.has.result c.if-not-has.false-raw, ← c.has-2.ensures, c.if-has.true)

pub returns : goal.returns
unfolding owed_in
returns c = rw (← c.has.ensures, not-false c.has.result c.if-not-has.false-raw, ← c.has-2.ensures, c.if-has.false, ← c.deadline.ensures.is, ← c.from.ensures)
