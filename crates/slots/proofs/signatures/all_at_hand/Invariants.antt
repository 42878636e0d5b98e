-- Each signature that is needed is at hand: the subset test of both masks, shifted, is what is left of it.
use Rattle.laws.proofs.Prelude.{subset, ◌<◌, ◌≡◌}
use Rattle.slots.proofs.signatures.all_at_hand.Given as goal

abbrev pub invariant-loop-needed : goal.invariant-loop-needed
invariant-loop-needed l =
    (l.needed < 256) × (subset 8 l.need l.have ≡ subset 8 l.needed l.there)

abbrev pub decreases-loop-needed : goal.decreases-loop-needed
decreases-loop-needed l =
    l.needed
