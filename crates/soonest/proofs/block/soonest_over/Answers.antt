-- A confirmed one by its block, any other by the greatest of three.
use Rattle.laws.proofs.Prelude.{◌+◌, ◌*◌, rules, arith, tests}
use Rattle.soonest.specs.Soonest.{soonest_over}
use Rattle.soonest.proofs.Bounds.{greater_le}
use Rattle.soonest.proofs.block.soonest_over.Goals as goal

pub returns-then-block-gt0 : goal.returns-then-block-gt0
unfolding soonest_over
returns-then-block-gt0 c = record { is = simp (tests, c.if-block-gt0.true); small = search rules }

pub overflow_add-lock : goal.overflow_add-lock
unfolding soonest_over
overflow_add-lock c = let h = c.lock_at-lock.ensures.small 4294967295 (omega arith) (omega (arith, c.args.sheet.now.sized, c.requires.t_bound, c.requires.below, c.args.sheet.now.sized.few)) in search rules

pub returns : goal.returns
unfolding soonest_over
returns c =
    let bound = 2147549184 + 16777216 * (c.args.t + 1) in
    let h = c.lock_at-lock.ensures.small bound (omega arith) (omega (arith, c.args.sheet.now.sized, c.requires.t_bound, c.requires.below)) in
    record {
      is = simp (tests, c.if-block-gt0.false, c.greater-2.ensures, c.greater.ensures, c.lock_at-lock.ensures.is);
      small = rw (c.greater-2.ensures, c.greater.ensures) (greater_le _ _ _ (search rules) (greater_le _ _ _ (search rules) (search rules)));
    }
