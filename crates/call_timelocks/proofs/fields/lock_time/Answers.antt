-- By the lock type; the sum stays below the threshold.
use Rattle.call_timelocks.proofs.Within.{absolute_within}
use Rattle.call_timelocks.specs.Fields.{n_lock_time}
use Rattle.laws.proofs.Prelude.{tests, sym, ◌∙◌, arith}
use Rattle.call_timelocks.proofs.fields.lock_time.Goals as goal

pub returns-then-lock_type-ne1 : goal.returns-then-lock_type-ne1
unfolding n_lock_time
returns-then-lock_type-ne1 c = simp (tests, ← c.lock_type.ensures, c.if-lock_type-ne1.true)

pub overflow_add-result : goal.overflow_add-result
overflow_add-result c = record { fits = omega (arith, c.lock_blocks.ensures.is, absolute_within _ _ _ _ c.requires.t_value (sym c.lock_type.ensures ∙ c.if-lock_type-ne1.false)) }

pub returns : goal.returns
unfolding n_lock_time
returns c = simp (tests, ← c.lock_type.ensures, c.if-lock_type-ne1.false, c.lock_blocks.ensures.is)
