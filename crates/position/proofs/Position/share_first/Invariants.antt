-- Those after the members that were gone through are left to share.
use Rattle.slots.proofs.Walks.{Walked}
use Rattle.position.proofs.FirstSets.{members_from}
use Rattle.position.specs.FirstShares.{first_shares}
use Rattle.position.specs.Effect.{share_each}
use Rattle.position.specs.Position.{keys}
use Rattle.laws.proofs.Prelude.{◌≡◌}
use Rattle.position.proofs.Position.share_first.Given as goal

abbrev pub invariant-loop-t : goal.invariant-loop-t
invariant-loop-t l =
    Walked l.set 32 (λ t. (l.held ≡ keys l.self l.party) × (share_each l.sheet.bytes l.party (members_from l.set t) l.self ≡ share_each l.sheet.bytes l.party (first_shares l.party) l.initial.self)) l.t-iterator.left
