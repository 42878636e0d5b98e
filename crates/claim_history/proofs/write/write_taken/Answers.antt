-- The four bytes of a step, or none.
use Rattle.claim_history.proofs.Writing.{taken_bytes}
use Rattle.claim_history.proofs.write.write_taken.Goals as goal

pub write_step-requires : goal.write_step-requires
write_step-requires c = rw (taken_bytes c.args.steps.now c.args.i c.args.refusal) c.requires.i_in_bounds_2

pub returns : goal.returns
returns c = rw (← (taken_bytes c.args.steps.now c.args.i c.args.refusal)) (record { value = c.write_step.ensures.value; out_after = c.write_step.ensures.out_after })
