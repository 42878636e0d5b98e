-- What is written and what is left to write come to the whole.
use Rattle.laws.proofs.Prelude.{◌<◌, arith, ap, ◌∙◌}
use Rattle.position.specs.Position.{start}
use Rattle.output.proofs.Writing.{writing_start, writing_more, writing_done}
use Rattle.call_shrink.proofs.Writing.{bytes_start, bytes_turn, bytes_none, all_room, turn_room, turn_end, round_written}
use Rattle.call_shrink.proofs.Twins.{twins_start, twins_more}
use Rattle.call_shrink.proofs.LostRows.{losing_start, tried, losing_more}
use Rattle.call_shrink.proofs.round.write_round.Goals as goal
use Rattle.call_shrink.proofs.round.write_round.Goals.{After-again-twin}

-- a turn is one of at most 1024
few : (c : After-again-twin) → c.loop-k.k < 1024
few c = omega (arith, c.loop-k-test.true, c.requires.steps_len_bound)

pub loop-k-init : goal.loop-k-init
loop-k-init c = (writing_start _ _ _ _ (bytes_start _ _ _ _ _ (c.start-here.ensures ∙ ap start c.bytes.ensures) c.requires.steps_value) (all_room _ _ _ _ _ c.requires.steps_in_bounds), twins_start _ _ _ _ _ (c.start-here.ensures ∙ ap start c.bytes.ensures) c.requires.steps_value, losing_start _ _ _ _)

pub again-twin-requires : goal.again-twin-requires
again-twin-requires c = record { i_in_bounds = omega (arith, c.loop-k-test.true); le_i = c.loop-k.invariant.1.later }

pub overflow_mul-from : goal.overflow_mul-from
overflow_mul-from c = record { fits = omega (arith, c.lost_from-from.ensures, c.loop-k.invariant.2.early, few (goal.at.overflow_mul-from c).After-again-twin) }

pub slice_bounds-stays-count : goal.slice_bounds-stays-count
slice_bounds-stays-count c = omega (arith, c.lost_from-from.ensures, c.loop-k.invariant.2.early)

pub slice_bounds-stays-start : goal.slice_bounds-stays-start
slice_bounds-stays-start c = omega (arith, c.lost_from-from.ensures, c.loop-k.invariant.2.early)

pub slice_bounds-write_kept-count : goal.slice_bounds-write_kept-count
slice_bounds-write_kept-count c = omega (arith, c.loop-k.invariant.0.wrote)

pub slice_bounds-write_kept-start : goal.slice_bounds-write_kept-start
slice_bounds-write_kept-start c = omega (arith, c.loop-k.invariant.0.wrote)

pub write_kept-wrote-requires : goal.write_kept-wrote-requires
write_kept-wrote-requires c =
    let g = tried _ _ _ _ _ _ c.loop-k.invariant.2 _ _ _ _ _ c.loop-k.invariant.1 (omega (arith, c.loop-k-test.true)) c.again-twin.ensures (rw c.lost_from-from.ensures at c.stays-stay.ensures) c.goes-going.ensures in
    record { i_in_bounds = omega (arith, c.loop-k-test.true); i_in_bounds_2 = turn_room _ _ _ _ c.loop-k.invariant.0 _ (omega (arith, c.loop-k-test.true)) g }

pub overflow_mul-k-in-loop-k-5 : goal.overflow_mul-k-in-loop-k-5
overflow_mul-k-in-loop-k-5 c = record { fits = omega (arith, few (goal.at.overflow_mul-k-in-loop-k-5 c).After-again-twin) }

pub overflow_add-k-in-loop-k-2 : goal.overflow_add-k-in-loop-k-2
overflow_add-k-in-loop-k-2 c = record { fits = omega (arith, few (goal.at.overflow_add-k-in-loop-k-2 c).After-again-twin) }

pub overflow_mul-k-in-loop-k-6 : goal.overflow_mul-k-in-loop-k-6
overflow_mul-k-in-loop-k-6 c = record { fits = omega (arith, few (goal.at.overflow_mul-k-in-loop-k-6 c).After-again-twin) }

pub past-here-requires : goal.past-here-requires
past-here-requires c = record { fit = c.requires.fit; i_in_bounds = omega (arith, c.loop-k-test.true) }

pub overflow_add-at : goal.overflow_add-at
overflow_add-at c =
    let g = tried _ _ _ _ _ _ c.loop-k.invariant.2 _ _ _ _ _ c.loop-k.invariant.1 (omega (arith, c.loop-k-test.true)) c.again-twin.ensures
    (rw c.lost_from-from.ensures at c.stays-stay.ensures) c.goes-going.ensures in
    let w = turn_end _ _ _ _ c.loop-k.invariant.0 _ (omega (arith, c.loop-k-test.true)) g _ c.write_kept-wrote.ensures.value in
    omega (arith, c.requires.steps_len_bound, w)

pub loop-k-preserved : goal.loop-k-preserved
loop-k-preserved c =
    let g = tried _ _ _ _ _ _ c.loop-k.invariant.2 _ _ _ _ _ c.loop-k.invariant.1 (omega (arith, c.loop-k-test.true)) c.again-twin.ensures
    (rw c.lost_from-from.ensures at c.stays-stay.ensures) c.goes-going.ensures in
    let e = bytes_turn _ _ _ _ _ _ _ _ (omega (arith, c.loop-k-test.true)) g c.past-here.ensures in (
      writing_more c.loop-k.invariant.0 _ _ e _ _ c.write_kept-wrote.ensures.value c.write_kept-wrote.ensures.out_after,
      twins_more _ _ _ _ _ _ _ _ c.loop-k.invariant.1 (omega (arith, c.loop-k-test.true)) _ g c.past-here.ensures,
      losing_more _ _ _ _ _ _ c.loop-k.invariant.2 _ _ _ _ g c.lost_after-lost.ensures,
    )

pub shape_of-out : goal.shape_of-out
shape_of-out c = c.loop-k.invariant.0.wrote.long

pub returns : goal.returns
returns c =
    let whole = round_written _ _ _ _ (writing_done c.loop-k.invariant.0 (bytes_none _ _ _ _ _ _ (omega (arith, c.loop-k-test.false)))) in
    record { value = whole.0; out_after = whole.1 }
