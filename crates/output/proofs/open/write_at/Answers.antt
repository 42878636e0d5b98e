-- The steps of the destinations before d.
use Rattle.output.specs.Forms.Emitted.{emitted_at, opens}
use Rattle.laws.proofs.Prelude.{turns_start, turn_room, turn_end, turn_more, turns_done, arith}
use Rattle.output.proofs.open.write_at.Goals as goal
use Rattle.output.proofs.open.write_at.Invariants.{turn}

pub loop-d-init : goal.loop-d-init
unfolding emitted_at
loop-d-init c = turns_start _ _ _ c.requires

pub slice_bounds-write_step-count : goal.slice_bounds-write_step-count
unfolding emitted_at
slice_bounds-write_step-count c = omega (arith, c.loop-d.invariant.wrote)

pub slice_bounds-write_step-start : goal.slice_bounds-write_step-start
unfolding emitted_at
slice_bounds-write_step-start c = omega (arith, c.loop-d.invariant.wrote)

pub write_step-wrote-requires : goal.write_step-wrote-requires
unfolding opens
write_step-wrote-requires c = turn_room (turn c.args.on c.args.kind c.args.actor c.args.t) _ _ _ _ _ c.loop-d.invariant c.loop-d-test.true

pub overflow_add-at : goal.overflow_add-at
unfolding opens
overflow_add-at c = omega (arith, turn_end (turn c.args.on c.args.kind c.args.actor c.args.t) _ _ _ _ _ _ c.loop-d.invariant c.loop-d-test.true c.write_step-wrote.ensures.value)

pub loop-d-preserved : goal.loop-d-preserved
unfolding opens
loop-d-preserved c = turn_more (turn c.args.on c.args.kind c.args.actor c.args.t) _ _ _ _ _ _ _ c.loop-d.invariant c.loop-d-test.true c.write_step-wrote.ensures.value c.write_step-wrote.ensures.out_after

pub shape_of-out : goal.shape_of-out
unfolding emitted_at
shape_of-out c = c.loop-d.invariant.wrote.long

pub returns : goal.returns
unfolding emitted_at
returns c = let w = turns_done _ _ _ _ _ _ c.loop-d.invariant c.loop-d-test.false in record { value = w.at; out_after = w.is }
