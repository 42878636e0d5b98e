-- The sum of the counts.
use Rattle.call_list.specs.Forms.SetsBytes.{sets_count}
use Rattle.call_list.proofs.listing.sets_count.Goals as goal

pub returns : goal.returns
unfolding sets_count
returns c = rw (c.step_count-a.ensures.is, c.step_count-b.ensures.is, c.step_count-c.ensures.is, c.step_count-m.ensures.is)
