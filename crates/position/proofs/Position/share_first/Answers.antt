-- Those after the members that were gone through are left to share.
use Rattle.position.proofs.FirstSets.{first_low, share_start, share_more, share_done}
use Rattle.slots.proofs.Walks.{walk_start, walk_turn, walk_on, walk_end}
use Rattle.position.specs.Effect.{with_slots}
use Rattle.position.specs.Position.{slot, keys}
use Rattle.laws.proofs.Prelude.{rules}
use Rattle.position.proofs.Position.share_first.Goals as goal

pub loop-t-init : goal.loop-t-init
loop-t-init c =
    rw c.into_iter-t-iterator.ensures.into_iter_gives
    (walk_start _ _ _ (search rules) c.members-t-items.ensures (c.keys-held.ensures, share_start _ _ _ _ c.first_shares-set.ensures))

pub shared_slot-shared-requires : goal.shared_slot-shared-requires
shared_slot-shared-requires c =
    let h = walk_turn c.loop-t.invariant _ _ c.in-Some.ensures.steps in
    let low = first_low _ _ c.first_shares-set.ensures _ h.high h.here in
    search (rules, low)

pub loop-t-preserved : goal.loop-t-preserved
unfolding slot keys with_slots
loop-t-preserved c =
    let h = walk_turn c.loop-t.invariant _ _ c.in-Some.ensures.steps in
    walk_on c.loop-t.invariant _ _ h (
      c.loop-t.invariant.done.0,
      share_more _ _ _ _ _ _ c.loop-t.invariant.done.1 _ _ _ h.gap h.high h.here c.loop-t.invariant.done.0 c.shared_slot-shared.ensures,
    )

pub returns : goal.returns
returns c = share_done _ _ _ _ _ _ c.loop-t.invariant.done.1 (walk_end c.loop-t.invariant c.in-None.ensures.steps)
