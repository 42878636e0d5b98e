-- A count, or no parent.
use Rattle.dated.specs.Forms.Opens.{stays}
use Rattle.sheet.specs.LockHeight.{never}
use Rattle.laws.proofs.Prelude.{eq-eqb, ne_eqb}
use Rattle.dated.proofs.opens.stays.Goals as goal

pub returns-then-c-ne-NEVER : goal.returns-then-c-ne-NEVER
unfolding stays
returns-then-c-ne-NEVER c = rw (ne_eqb _ never c.if-c-ne-NEVER.true)

pub returns : goal.returns
unfolding stays
returns c = rw (eq-eqb _ never c.if-c-ne-NEVER.false, c.parent_there.ensures)
