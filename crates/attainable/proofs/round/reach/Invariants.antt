-- Those below t, each over its parent.
use Rattle.laws.proofs.Prelude.{◌≡◌, set_below}
use Rattle.attainable.specs.Forms.Round.{reach_in}
use Rattle.attainable.proofs.round.reach.Given as goal

abbrev pub invariant-loop-t : goal.invariant-loop-t
invariant-loop-t l =
    l.found ≡ set_below l.t (reach_in l.sheet.bytes l.confirmed l.can)
