-- In the pool, not in the block, of the line.
use Rattle.steps.specs.Forms.Blocks.{enters_in}
use Rattle.laws.proofs.Prelude.{not-true, not-false}
use Rattle.steps.proofs.bumped.enters_in.Goals as goal

pub returns-then-not-has : goal.returns-then-not-has
unfolding enters_in
returns-then-not-has c = rw (← c.has.ensures, not-true c.has.result c.if-not-has.true-raw)

pub returns-then-has : goal.returns-then-has
unfolding enters_in
returns-then-has c = rw (← c.has.ensures, not-false c.has.result c.if-not-has.false-raw, ← c.has-2.ensures, c.if-has.true)

pub returns : goal.returns
unfolding enters_in
returns c = rw (← c.has.ensures, not-false c.has.result c.if-not-has.false-raw, ← c.has-2.ensures, c.if-has.false) c.has-3.ensures
