-- The best of the members that were gone through.
use Rattle.position.proofs.Due.{soonest_first, soonest_next, soonest_done}
use Rattle.slots.proofs.Walks.{walk_start, walk_turn, walk_on, walk_end}
use Rattle.laws.proofs.Prelude.{rules}
use Rattle.position.proofs.Position.soonest_in.Goals as goal

pub loop-t-init : goal.loop-t-init
loop-t-init c = rw c.into_iter-t-iterator.ensures.into_iter_gives (walk_start _ _ _ (search rules) c.members-t-items.ensures (soonest_first _ _ _ _ _))

pub loop-t-preserved : goal.loop-t-preserved
loop-t-preserved c =
    let h = walk_turn c.loop-t.invariant _ _ c.in-Some.ensures.steps in
    walk_on c.loop-t.invariant _ _ h
    (soonest_next _ _ _ _ _ _ _ _ _ _ _ _ h.gap h.here c.loop-t.invariant.done c.deadline_with-height.ensures.is c.ahead.ensures c.lower-best.ensures)

pub returns : goal.returns
returns c = soonest_done _ _ _ _ _ _ _ _ (walk_end c.loop-t.invariant c.in-None.ensures.steps) c.count-n.ensures.is c.loop-t.invariant.done
