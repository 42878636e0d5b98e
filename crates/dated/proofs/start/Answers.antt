-- No count, then the position before any step.
use Rattle.dated.specs.Dated.{unseen, dated_start}
use Rattle.dated.proofs.start.Goals as goal

pub noted-opened-requires : goal.noted-opened-requires
unfolding dated_start unseen
noted-opened-requires c = record { fit = c.requires; view_value = rw (c.start-position.ensures, c.bytes.ensures) c.start_view-view.ensures }

pub returns : goal.returns
unfolding dated_start unseen
returns c = record { dated_value = rw (c.noted-opened.ensures, c.start-position.ensures, c.bytes.ensures); view_value = rw (c.start-position.ensures, c.bytes.ensures) c.start_view-view.ensures }
