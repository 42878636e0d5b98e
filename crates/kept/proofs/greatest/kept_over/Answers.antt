-- At the height of the outage.
use Rattle.kept.specs.Forms.Evaluation.{kept_over}
use Rattle.kept.proofs.greatest.kept_over.Goals as goal

pub returns : goal.returns
unfolding kept_over
returns c = c.kept_to.ensures
