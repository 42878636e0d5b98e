-- The greater of the block above and the one behind the lock.
use native.Mathlib.Omega.{arith}
use Rattle.endings.proofs.Locks.{from_lock, from_above}
use Rattle.endings.proofs.block.earliest_from.Goals as goal

pub lock_from-next-requires : goal.lock_from-next-requires
lock_from-next-requires c = record { t_bound = c.requires.t_bound; above_bound = omega (arith, c.args.sheet.now.sized.few, c.requires.t_bound, c.requires.above_bound) }

pub overflow_add-next : goal.overflow_add-next
overflow_add-next c = record { fits = omega (arith, c.args.sheet.now.sized.few, c.requires.t_bound, c.requires.above_bound) }

pub returns-then-above-next : goal.returns-then-above-next
returns-then-above-next c = record { is = from_lock _ _ _ _ _ c.lock_from-next.ensures.is c.if-above-next.true; small = omega (arith, c.lock_from-next.ensures.small, c.requires.above_bound) }

pub returns : goal.returns
returns c = record { is = from_above _ _ _ _ _ c.lock_from-next.ensures.is c.if-above-next.false; small = omega (arith, c.requires.above_bound) }
