-- New, and not empty.
use Rattle.steps.specs.Forms.Sharing.{share_met_in}
use Rattle.steps.proofs.sharing.share_met.Goals as goal

pub returns-then-marked_for : goal.returns-then-marked_for
unfolding share_met_in
returns-then-marked_for c = rw (← c.marked_for.ensures, c.if-marked_for.true)

pub returns : goal.returns
unfolding share_met_in
returns c = rw (← c.marked_for.ensures, c.if-marked_for.false, c.share_mask.ensures)
