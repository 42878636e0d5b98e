-- The least lock height of a rival above the own one. The best of those below k.
use Rattle.slots.proofs.Deadlines.{rival_turn}
use Rattle.slots.specs.Deadline.{deadline}
use Rattle.laws.proofs.Prelude.{least_start, least_more, least_done, rules, arith}
use native.Mathlib.Nat.{min-le_left}
use Rattle.slots.proofs.deadline.deadline_among.Goals as goal

pub loop-k-init : goal.loop-k-init
loop-k-init c = (least_start _ _ _, search rules)

pub loop-k-preserved : goal.loop-k-preserved
loop-k-preserved c = (
  least_more _ _ _ _ _ _ _ c.loop-k.invariant.0 (rival_turn _ _ _ _ _ _ _ _ c.requires.t_value c.parent-up.ensures.is
      c.rival_height.ensures.is) c.lower-best.ensures,
  omega
      (arith, c.loop-k.invariant.1, c.lower-best.ensures, min-le_left c.loop-k.best c.rival_height.result),
)

pub returns : goal.returns
unfolding deadline
returns c = record { is = rw (← c.count-k-end.ensures.is, ← c.lock_height-own.ensures.is) (least_done _ _ _ _ _ _ c.loop-k.auto.k-end c.loop-k-test.false c.loop-k.invariant.0); small = c.loop-k.invariant.1 }
