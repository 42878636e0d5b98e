-- What is written and what is left to write come to the whole.
use Rattle.laws.proofs.Prelude.{arith, ap, ◌∙◌}
use Rattle.position.specs.Position.{start}
use Rattle.output.proofs.Writing.{writing_start, writing_more, writing_done}
use Rattle.claim_history.proofs.Writing.{bytes_start, bytes_turn, bytes_none, turn_room, turn_end}
use Rattle.claim_history.proofs.write.write_accepted.Goals as goal

pub loop-k-init : goal.loop-k-init
loop-k-init c = writing_start _ _ _ _ (bytes_start _ _ _ _ (c.start-here.ensures ∙ ap start c.bytes.ensures)) c.requires.sheet_in_bounds

pub step_at-stepped-requires : goal.step_at-stepped-requires
step_at-stepped-requires c = record { fit = c.requires.fit; i_in_bounds = omega (arith, c.loop-k-test.true) }

pub slice_bounds-write_taken-count : goal.slice_bounds-write_taken-count
slice_bounds-write_taken-count c = omega (arith, c.loop-k.invariant.wrote)

pub slice_bounds-write_taken-start : goal.slice_bounds-write_taken-start
slice_bounds-write_taken-start c = omega (arith, c.loop-k.invariant.wrote)

pub write_taken-wrote-requires : goal.write_taken-wrote-requires
write_taken-wrote-requires c = record { i_in_bounds = omega (arith, c.loop-k-test.true); i_in_bounds_2 = turn_room _ _ _ c.loop-k.invariant _ (omega (arith, c.loop-k-test.true)) c.step_at-stepped.ensures }

pub overflow_add-at : goal.overflow_add-at
overflow_add-at c = omega (arith, turn_end _ _ _ c.loop-k.invariant _ (omega (arith, c.loop-k-test.true)) c.step_at-stepped.ensures _ c.write_taken-wrote.ensures.value)

pub loop-k-preserved : goal.loop-k-preserved
loop-k-preserved c =
    let e = bytes_turn _ _ _ _ _ _ (omega (arith, c.loop-k-test.true)) c.step_at-stepped.ensures in
    writing_more c.loop-k.invariant _ _ e _ _ c.write_taken-wrote.ensures.value c.write_taken-wrote.ensures.out_after

pub shape_of-out : goal.shape_of-out
shape_of-out c = c.loop-k.invariant.wrote.long

pub returns : goal.returns
returns c = (writing_done c.loop-k.invariant (bytes_none _ _ _ _ _ (omega (arith, c.loop-k-test.false)))).is
