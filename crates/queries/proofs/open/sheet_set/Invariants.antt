-- The set of those that were gone through.
use Rattle.laws.proofs.Prelude.{set_below, ◌≡◌}
use Rattle.slots.proofs.Walks.{Walked}
use Rattle.queries.specs.Forms.OpenSets.{is_open_step}
use Rattle.queries.proofs.open.sheet_set.Given as goal

abbrev pub invariant-loop-t : goal.invariant-loop-t
invariant-loop-t l =
    Walked l.c l.n (λ t. l.found ≡ set_below t (λ j. is_open_step l.sheet.bytes l.setup l.position l.kind l.actor j l.to)) l.t-iterator.left
