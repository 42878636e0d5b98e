-- What the steps that are left shrink to is the whole.
use Rattle.laws.proofs.Prelude.{sym, arith}
use Rattle.call_shrink.proofs.Repeating.{front_length, going_done, going_less, kept_fits, kept_length, going_on}
use Rattle.call_shrink.proofs.rounds.rounds.Goals as goal

pub slice_bounds-write_round-end-in-loop-left : goal.slice_bounds-write_round-end-in-loop-left
slice_bounds-write_round-end-in-loop-left c = sym (front_length _ _ _ _ _ _ _ _ _ c.loop-left.invariant)

pub write_round-kept-requires : goal.write_round-kept-requires
write_round-kept-requires c =
    let l = front_length _ _ _ _ _ _ _ _ _ c.loop-left.invariant in
    record { fit = c.requires.fit; steps_len_bound = omega (arith, l, c.loop-left.invariant.few); steps_in_bounds = omega (arith, l, c.loop-left.invariant.fits, c.loop-left.invariant.room); steps_value = c.loop-left.invariant.still }

pub returns-then-kept-left : goal.returns-then-kept-left
returns-then-kept-left c = going_done _ _ _ _ _ _ _ _ _ c.loop-left.invariant _ _ c.write_round-kept.ensures.value c.write_round-kept.ensures.out_after c.if-kept-left.true

pub overflow_mul-size : goal.overflow_mul-size
overflow_mul-size c = record { fits = omega (arith, c.loop-left.invariant.few, going_less _ _ _ _ _ _ _ _ _ c.loop-left.invariant _ _ c.write_round-kept.ensures.value c.write_round-kept.ensures.out_after c.if-kept-left.false) }

pub slice_bounds-copy-end : goal.slice_bounds-copy-end
slice_bounds-copy-end c = kept_fits _ _ _ _ _ _ _ _ _ c.loop-left.invariant _ _ c.write_round-kept.ensures.value c.write_round-kept.ensures.out_after

pub slice_bounds-copy-end-in-loop-left : goal.slice_bounds-copy-end-in-loop-left
slice_bounds-copy-end-in-loop-left c = sym (kept_length _ _ _ _ _ _ _ _ _ c.loop-left.invariant _ _ c.write_round-kept.ensures.value c.write_round-kept.ensures.out_after)

pub copy-requires : goal.copy-requires
copy-requires c =
    omega (
      arith,
      kept_length _ _ _ _ _ _ _ _ _ c.loop-left.invariant _ _ c.write_round-kept.ensures.value c.write_round-kept.ensures.out_after,
      going_less
          _ _ _ _ _ _ _ _ _ c.loop-left.invariant _ _ c.write_round-kept.ensures.value c.write_round-kept.ensures.out_after c.if-kept-left.false,
      c.loop-left.invariant.fits,
    )

pub loop-left-smaller : goal.loop-left-smaller
loop-left-smaller c = going_less _ _ _ _ _ _ _ _ _ c.loop-left.invariant _ _ c.write_round-kept.ensures.value c.write_round-kept.ensures.out_after c.if-kept-left.false

pub loop-left-preserved : goal.loop-left-preserved
loop-left-preserved c = going_on _ _ _ _ _ _ _ _ _ c.loop-left.invariant _ _ c.write_round-kept.ensures.value c.write_round-kept.ensures.out_after _ c.copy.ensures c.if-kept-left.false
