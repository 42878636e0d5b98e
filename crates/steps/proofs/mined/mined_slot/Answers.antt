-- Confirmed, and out of the pool where the line meets the set.
use Rattle.steps.specs.Forms.Blocks.{mined_slot}
use Rattle.steps.proofs.Unmoved.{pool_out}
use Rattle.laws.proofs.Prelude.{bit, ◌||◌, or-true}
use Rattle.slots.specs.Ancestry.{in_ancestry}
use Rattle.steps.proofs.mined.mined_slot.Goals as goal

pub returns-then-y-eq0 : goal.returns-then-y-eq0
unfolding mined_slot
returns-then-y-eq0 c =
    rw (← c.confirm_entry-y.ensures) (pool_out (bit c.args.entering c.args.t || in_ancestry
    c.args.sheet.now.bytes (bit c.args.leaving) c.args.t) c.confirm_entry-y.result c.if-y-eq0.true)

pub returns-then-has : goal.returns-then-has
unfolding mined_slot
returns-then-has c = rw (← c.has.ensures, c.if-has.true, c.with_pool.ensures, c.confirm_entry-y.ensures)

pub returns-then-in_ancestry : goal.returns-then-in_ancestry
unfolding mined_slot
returns-then-in_ancestry c = rw (← c.in_ancestry.ensures, c.if-in_ancestry.true, c.with_pool-then-in_ancestry.ensures, or-true, c.confirm_entry-y.ensures)

pub returns : goal.returns
unfolding mined_slot
returns c = rw (← c.in_ancestry.ensures, ← c.has.ensures, c.if-has.false, c.if-in_ancestry.false, c.confirm_entry-y.ensures)
