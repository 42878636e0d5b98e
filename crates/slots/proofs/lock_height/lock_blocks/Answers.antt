-- The days read from the sheet, a byte, times two bytes.
use Rattle.laws.specs.Little.{product_below}
use Rattle.sheet.specs.LockHeight.{lock_blocks}
use Rattle.laws.proofs.Prelude.{◌*◌, ◌<◌, rules, arith}
use Rattle.slots.proofs.lock_height.lock_blocks.Goals as goal
use Rattle.slots.proofs.lock_height.lock_blocks.Goals.{After-from-2}

small : (c : After-from-2) → c.from.result * c.from-2.result < 16777216
small c = product_below 1 2 c.from.result c.from-2.result (search rules) (search rules)

pub overflow_mul-result : goal.overflow_mul-result
overflow_mul-result c = record { fits = omega (arith, small c) }

pub returns : goal.returns
unfolding lock_blocks
returns c = record { is = rw (← c.days-days.ensures, c.from.ensures, c.from-2.ensures); small = small c }
