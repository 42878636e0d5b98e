-- A block entry is confirmed; any other slot stays.
use Rattle.steps.specs.Mined.{confirm_entry}
use Rattle.slots.specs.Slot.{standing, entry_to}
use Rattle.laws.proofs.Prelude.{lt-ltb, arith}
use Rattle.steps.proofs.mined.confirm_entry.Goals as goal

pub returns-then-entry-eq0 : goal.returns-then-entry-eq0
unfolding confirm_entry standing
returns-then-entry-eq0 c = rw c.if-entry-eq0.true

pub returns : goal.returns
unfolding confirm_entry standing entry_to
returns c = rw (lt-ltb 0 c.args.x.block (omega (arith, c.if-entry-eq0.false)), c.with_block.ensures, c.with_confirmed-confirmed.ensures, c.with_shared-shared.ensures, c.exposed_mask-mask.ensures)
