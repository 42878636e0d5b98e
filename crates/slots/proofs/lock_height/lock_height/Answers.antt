-- At the parent's block, of two bytes.
use Rattle.sheet.specs.LockHeight.{never}
use Rattle.laws.proofs.Prelude.{◌+◌, arith, rules}
use Rattle.slots.proofs.lock_height.lock_height.Goals as goal

pub returns : goal.returns
returns c = record { is = rw (← c.from.ensures) c.lock_over.ensures.is; small = omega (arith, c.lock_over.ensures.small (never + 1) (omega arith) (search rules)) }
