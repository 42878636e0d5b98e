-- Paid, or one is reached.
use Rattle.kept.specs.Forms.Evaluation.{kept_in}
use Rattle.kept.proofs.Rounds.{kept_unpaid}
use Rattle.kept.proofs.kept.kept_to.Goals as goal

pub returns-then-prospect : goal.returns-then-prospect
unfolding kept_in
returns-then-prospect c = rw c.if-prospect.true

pub returns : goal.returns
returns c = kept_unpaid _ _ _ c.if-prospect.false c.reached.ensures
