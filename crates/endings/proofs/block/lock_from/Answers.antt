-- None, the product, or the block above plus it.
use Rattle.laws.proofs.Prelude.{rules, arith}
use Rattle.endings.proofs.Locks.{lock_none, lock_days, lock_since}
use Rattle.endings.proofs.block.lock_from.Goals as goal

pub returns-then-lock-eq0 : goal.returns-then-lock-eq0
returns-then-lock-eq0 c = record { is = lock_none _ _ _ _ _ c.lock_type-lock.ensures c.if-lock-eq0.true; small = search rules }

pub returns-then-lock-eq1 : goal.returns-then-lock-eq1
returns-then-lock-eq1 c = record { is = lock_days _ _ _ _ _ c.lock_type-lock.ensures _ c.lock_blocks-blocks.ensures.is c.if-lock-eq0.false c.if-lock-eq1.true; small = omega (arith, c.lock_blocks-blocks.ensures.small) }

pub returns : goal.returns
returns c = record { is = lock_since _ _ _ _ _ c.lock_type-lock.ensures _ c.lock_blocks-blocks.ensures.is c.if-lock-eq0.false c.if-lock-eq1.false; small = omega (arith, c.lock_blocks-blocks.ensures.small) }
