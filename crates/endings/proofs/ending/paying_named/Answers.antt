-- Not in the mask, or with a payee in its place of the list.
use Rattle.laws.proofs.Prelude.{held}
use Rattle.endings.specs.Ending.{destination_of}
use Rattle.endings.proofs.Counting.{ones_room}
use Rattle.endings.proofs.Naming.{named_out, named_in}
use Rattle.endings.proofs.ending.paying_named.Goals as goal

pub returns-then-not-has : goal.returns-then-not-has
unfolding destination_of
returns-then-not-has c = named_out _ _ _ _ _ c.has.ensures c.if-not-has.true-raw

pub u32_at-requires : goal.u32_at-requires
unfolding destination_of
u32_at-requires c = ones_room _ _ _ _ _ c.requires.t_bound (held _ _ c.has.ensures c.if-not-has.false-raw) c.ones_below-place.ensures.is c.requires.dests_len

pub returns : goal.returns
unfolding destination_of
returns c = named_in _ _ _ _ _ _ _ c.has.ensures c.if-not-has.false-raw c.pays.ensures (rw c.ones_below-place.ensures.is at c.u32_at.ensures)
