-- The members that were gone through are rewritten.
use Rattle.slots.proofs.Walks.{walk_turn}
use Rattle.position.proofs.Rewriting.{rewritten_start, rewritten_more, rewritten_done}
use Rattle.position.specs.Effect.{with_slots}
use Rattle.position.specs.Position.{slot}
use Rattle.settle.proofs.Answers.{confirm_outside, confirm_member}
use Rattle.laws.proofs.Prelude.{length_of_map, ◌≡◌, sym, ◌∙◌, length, rules}
use Rattle.settle.proofs.confirm.confirm.Goals as goal

pub loop-t-init : goal.loop-t-init
loop-t-init c =
    let l : length c.args.position.slots ≡ 32 = search (length_of_map, c.well_formed) in
    rw c.into_iter-t-iterator.ensures.into_iter_gives
    (rewritten_start _ _ _ _ (confirm_outside _ _ _ _) _ c.count-n.ensures.is _ (search rules) l c.members-t-items.ensures)

pub confirm_slot-y-requires : goal.confirm_slot-y-requires
confirm_slot-y-requires c = record { t_bound = rw (← c.count-n.ensures.is) (walk_turn c.loop-t.invariant _ _ c.in-Some.ensures.steps).high }

pub loop-t-preserved : goal.loop-t-preserved
unfolding with_slots slot
loop-t-preserved c =
    rewritten_more _ _ _ _ (confirm_outside _ _ _ _) _ c.count-n.ensures.is _ _ c.loop-t.invariant _ _ _ c.in-Some.ensures.steps
    (λ h. c.confirm_slot-y.ensures ∙ sym (confirm_member _ _ _ _ _ h))

pub returns : goal.returns
returns c = rewritten_done _ _ _ _ (confirm_outside _ _ _ _) _ c.count-n.ensures.is _ _ c.loop-t.invariant c.in-None.ensures.steps
