-- The least over those below r.
use Rattle.laws.specs.Least.{least_below}
use Rattle.laws.proofs.Prelude.{◌≡◌, true}
use Rattle.kept.specs.Forms.Prospect.{none}
use Rattle.prospect.specs.Forms.Tables.{beat_at}
use Rattle.prospect.proofs.rival.least_beat.Given as goal

abbrev pub invariant-loop-r : goal.invariant-loop-r
invariant-loop-r l =
    l.best ≡ least_below l.r (λ k. true) (beat_at l.marks l.come l.t) none
