-- The four bytes of a step, or none.
use Rattle.call_shrink.proofs.Trying.{kept_bytes}
use Rattle.call_shrink.proofs.round.write_kept.Goals as goal

pub write_step-requires : goal.write_step-requires
write_step-requires c = rw (kept_bytes c.args.steps.now c.args.i c.args.going) c.requires.i_in_bounds_2

pub returns : goal.returns
returns c = rw (← (kept_bytes c.args.steps.now c.args.i c.args.going)) (record { value = c.write_step.ensures.value; out_after = c.write_step.ensures.out_after })
