-- The secrets of the members below t.
use Rattle.laws.proofs.Prelude.{◌≡◌, union_below}
use Rattle.attainable.specs.Forms.Round.{shown_at}
use Rattle.attainable.proofs.round.shown.Given as goal

abbrev pub invariant-loop-t : goal.invariant-loop-t
invariant-loop-t l =
    l.found ≡ union_below l.t (shown_at l.shows l.members)
