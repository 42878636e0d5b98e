-- None where X is paid, one that nothing beats, or the lowest.
use Rattle.kept.specs.Forms.Evaluation.{counted_in}
use Rattle.kept.proofs.LeastPassing.{counted_sure, counted_low}
use Rattle.kept.proofs.counted.counted.Goals as goal

pub returns-then-prospect : goal.returns-then-prospect
unfolding counted_in
returns-then-prospect c = rw c.if-prospect.true

pub returns-then-safe : goal.returns-then-safe
returns-then-safe c =
    counted_sure _ _ _ _ _ c.if-prospect.false c.reached-found.ensures c.sure.ensures c.lowest-safe.ensures c.if-safe.true

pub returns : goal.returns
returns c =
    counted_low _ _ _ _ _ c.if-prospect.false c.reached-found.ensures c.sure.ensures c.lowest-safe.ensures _ c.if-safe.false c.lowest.ensures
