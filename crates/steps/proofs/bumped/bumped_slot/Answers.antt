-- In, out, or as it was.
use Rattle.steps.specs.Forms.Blocks.{bumped_slot}
use Rattle.steps.proofs.Unmoved.{block_out}
use Rattle.laws.proofs.Prelude.{bit}
use Rattle.slots.specs.Ancestry.{in_ancestry}
use Rattle.steps.proofs.bumped.bumped_slot.Goals as goal

pub returns-then-has : goal.returns-then-has
unfolding bumped_slot
returns-then-has c = rw (← c.has.ensures, c.if-has.true) c.with_block.ensures

pub returns-then-x-eq0 : goal.returns-then-x-eq0
unfolding bumped_slot
returns-then-x-eq0 c = rw (← c.has.ensures, c.if-has.false) (block_out (in_ancestry c.args.sheet.now.bytes (bit c.args.leaving) c.args.t) c.args.x c.if-x-eq0.true)

pub returns-then-in_ancestry : goal.returns-then-in_ancestry
unfolding bumped_slot
returns-then-in_ancestry c = rw (← c.has.ensures, c.if-has.false, ← c.in_ancestry.ensures, c.if-in_ancestry.true) c.with_block-then-in_ancestry.ensures

pub returns : goal.returns
unfolding bumped_slot
returns c = rw (← c.has.ensures, c.if-has.false, ← c.in_ancestry.ensures, c.if-in_ancestry.false)
