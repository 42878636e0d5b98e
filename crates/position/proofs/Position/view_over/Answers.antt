-- The members that were gone through are joined.
use Rattle.position.proofs.Renewed.{joined_start, joined_more, joined_done}
use Rattle.slots.proofs.Walks.{walk_start, walk_turn, walk_on, walk_end}
use Rattle.position.specs.Forms.Seen.{view_kept}
use Rattle.position.specs.Position.{slot}
use Rattle.laws.proofs.Prelude.{refl, rules}
use Rattle.position.proofs.Position.view_over.Goals as goal

pub loop-k-init : goal.loop-k-init
loop-k-init c = rw c.into_iter-k-iterator.ensures.into_iter_gives (walk_start _ _ _ (search rules) c.members-k-items.ensures (joined_start _ _ _))

pub loop-k-preserved : goal.loop-k-preserved
unfolding slot
loop-k-preserved c =
    let h = walk_turn c.loop-k.invariant _ _ c.in-Some.ensures.steps in
    walk_on c.loop-k.invariant _ _ h (joined_more _ _ _ _ _ _ _ _ _ h.gap c.loop-k.invariant.done h.here c.add-w.ensures refl)

pub returns : goal.returns
unfolding view_kept
returns c = rw (← c.count-n.ensures.is) (joined_done _ _ _ _ _ _ (walk_end c.loop-k.invariant c.in-None.ensures.steps) c.loop-k.invariant.done)
