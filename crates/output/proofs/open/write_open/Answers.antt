-- The steps of the kinds before k + 1.
use Rattle.output.specs.Forms.Emitted.{actor_bytes}
use Rattle.laws.proofs.Prelude.{turns_start, turn_room, turn_end, turn_more, turns_done, rules, arith}
use Rattle.output.proofs.open.write_open.Goals as goal

pub loop-k-init : goal.loop-k-init
unfolding actor_bytes
loop-k-init c = turns_start _ _ _ c.requires

pub slice_bounds-write_kind-count : goal.slice_bounds-write_kind-count
unfolding actor_bytes
slice_bounds-write_kind-count c = omega (arith, c.loop-k.invariant.wrote)

pub slice_bounds-write_kind-start : goal.slice_bounds-write_kind-start
unfolding actor_bytes
slice_bounds-write_kind-start c = omega (arith, c.loop-k.invariant.wrote)

pub write_kind-wrote-requires : goal.write_kind-wrote-requires
write_kind-wrote-requires c = record { k_bound = search rules; k_in_bounds = turn_room _ _ _ _ _ _ c.loop-k.invariant c.loop-k-test.true }

pub overflow_add-at : goal.overflow_add-at
overflow_add-at c = omega (arith, turn_end _ _ _ _ _ _ _ c.loop-k.invariant c.loop-k-test.true c.write_kind-wrote.ensures.value)

pub loop-k-preserved : goal.loop-k-preserved
loop-k-preserved c = turn_more _ _ _ _ _ _ _ _ c.loop-k.invariant c.loop-k-test.true c.write_kind-wrote.ensures.value c.write_kind-wrote.ensures.out_after

pub shape_of-out : goal.shape_of-out
unfolding actor_bytes
shape_of-out c = c.loop-k.invariant.wrote.long

pub returns : goal.returns
unfolding actor_bytes
returns c = let w = turns_done _ _ _ _ _ _ c.loop-k.invariant c.loop-k-test.false in record { value = w.at; out_after = w.is }
