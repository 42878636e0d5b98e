-- None where there is no slack, else what the prospect tells.
use Rattle.call_slack.specs.Forms.Counted.{counted_at_in}
use Rattle.laws.proofs.Prelude.{eq-eqb, ne_eqb, arith}
use Rattle.call_slack.proofs.both.counted_at.Goals as goal

pub returns-then-blocks-eq-NEVER : goal.returns-then-blocks-eq-NEVER
unfolding counted_at_in
returns-then-blocks-eq-NEVER c = simp (eq-eqb, c.if-blocks-eq-NEVER.true)

pub overflow_add-off : goal.overflow_add-off
overflow_add-off c = let l = c.requires.blocks_le_longest c.if-blocks-eq-NEVER.false in omega (arith, l, c.requires.bounded.early)

pub counted-requires : goal.counted-requires
counted-requires c = let l = c.requires.blocks_le_longest c.if-blocks-eq-NEVER.false in record { bounded = c.requires.bounded; off_le_never = omega (arith, l, c.requires.bounded.early) }

pub returns : goal.returns
unfolding counted_at_in
returns c = simp (ne_eqb, c.if-blocks-eq-NEVER.false, c.counted.ensures)
