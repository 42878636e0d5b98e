-- The greatest is between the two.
use Rattle.kept.specs.Forms.Evaluation.{kept_over}
use Rattle.slack.specs.Kept.{longest}
use Rattle.laws.specs.Greatest.{Bracket}
use Rattle.laws.proofs.Prelude.{◌-◌}
use Rattle.kept.proofs.greatest.kept_for.Given as goal

abbrev pub invariant-loop-low : goal.invariant-loop-low
invariant-loop-low l =
    Bracket longest (kept_over l.prospect) l.low l.high

abbrev pub decreases-loop-low : goal.decreases-loop-low
decreases-loop-low l =
    l.high - l.low
