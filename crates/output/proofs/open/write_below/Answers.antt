-- None, or the steps on the transactions before t.
use Rattle.output.proofs.Four.{four_below, none_below}
use Rattle.laws.proofs.Prelude.{over_none, turns_start, turn_room, turn_end, turn_more, turns_done, refl, rules, arith}
use Rattle.output.proofs.open.write_below.Goals as goal

pub returns-then-alice-bob-eq0 : goal.returns-then-alice-bob-eq0
returns-then-alice-bob-eq0 c = rw (none_below c.args.below c.args.actor c.args.k c.if-alice-bob-eq0.true) (record { value = refl; out_after = over_none _ })

pub loop-t-init : goal.loop-t-init
loop-t-init c = turns_start _ _ _ (rw (four_below c.args.below c.args.actor c.args.k) at c.requires.k_in_bounds)

pub slice_bounds-write_transaction-count : goal.slice_bounds-write_transaction-count
slice_bounds-write_transaction-count c = omega (arith, c.loop-t.invariant.wrote)

pub slice_bounds-write_transaction-start : goal.slice_bounds-write_transaction-start
slice_bounds-write_transaction-start c = omega (arith, c.loop-t.invariant.wrote)

pub write_transaction-wrote-requires : goal.write_transaction-wrote-requires
write_transaction-wrote-requires c = record { t_bound = search rules; t_in_bounds = turn_room _ _ _ _ _ _ c.loop-t.invariant c.loop-t-test.true }

pub overflow_add-at : goal.overflow_add-at
overflow_add-at c = omega (arith, turn_end _ _ _ _ _ _ _ c.loop-t.invariant c.loop-t-test.true c.write_transaction-wrote.ensures.value)

pub loop-t-preserved : goal.loop-t-preserved
loop-t-preserved c = turn_more _ _ _ _ _ _ _ _ c.loop-t.invariant c.loop-t-test.true c.write_transaction-wrote.ensures.value c.write_transaction-wrote.ensures.out_after

pub shape_of-out : goal.shape_of-out
shape_of-out c = c.loop-t.invariant.wrote.long

pub returns-clause-value : goal.returns-clause-value
returns-clause-value c = rw (four_below c.args.below c.args.actor c.args.k) (turns_done _ _ _ _ _ _ c.loop-t.invariant c.loop-t-test.false).at

pub returns-clause-out_after : goal.returns-clause-out_after
returns-clause-out_after c = rw (four_below c.args.below c.args.actor c.args.k) (turns_done _ _ _ _ _ _ c.loop-t.invariant c.loop-t-test.false).is
