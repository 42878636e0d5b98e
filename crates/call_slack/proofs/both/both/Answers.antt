-- By which of the two numbers it is.
use Rattle.call_slack.specs.Forms.Counted.{counted_both}
use Rattle.call_slack.proofs.Longer.{longer_few}
use Rattle.slack.specs.Kept.{longest}
use Rattle.laws.proofs.Prelude.{eq-eqb, ne_eqb}
use Rattle.call_slack.proofs.both.both.Goals as goal

pub counted_at-t-requires : goal.counted_at-t-requires
counted_at-t-requires c = record { bounded = c.requires.bounded; blocks_le_longest = rw c.longer-blocks.ensures (longer_few _ _ longest c.requires.a_le_longest c.requires.b_le_longest) }

pub returns-then-blocks-a : goal.returns-then-blocks-a
unfolding counted_both
returns-then-blocks-a c = record { blocks_value = c.longer-blocks.ensures; t_value = rw (← c.longer-blocks.ensures, eq-eqb _ _ c.if-blocks-a.true) c.counted_at-t.ensures }

pub counted_at-t-requires-2 : goal.counted_at-t-requires-2
counted_at-t-requires-2 c = record { bounded = c.requires.bounded_2; blocks_le_longest = rw c.longer-blocks.ensures (longer_few _ _ longest c.requires.a_le_longest c.requires.b_le_longest) }

pub returns : goal.returns
unfolding counted_both
returns c = record { blocks_value = c.longer-blocks.ensures; t_value = rw (← c.longer-blocks.ensures, ne_eqb _ _ c.if-blocks-a.false) c.counted_at-t-2.ensures }
