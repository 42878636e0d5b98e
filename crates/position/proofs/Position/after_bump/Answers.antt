-- The members that were gone through are rewritten.
use Rattle.position.proofs.Rewriting.{rewritten_start, rewritten_more, rewritten_done}
use Rattle.position.proofs.BlockSets.{bumped_right}
use Rattle.position.proofs.NoEntries.{bumped_outside}
use Rattle.slots.proofs.Walks.{walk_turn}
use Rattle.position.specs.Effect.{with_slots, change_slots, after_bump}
use Rattle.position.specs.Position.{slot}
use Rattle.laws.proofs.Prelude.{length_of_map, ◌≡◌, refl, ◌∙◌, length, rules}
use Rattle.position.proofs.Position.after_bump.Goals as goal

pub loop-k-init : goal.loop-k-init
loop-k-init c =
    let l : length c.args.self.slots ≡ 32 = search (length_of_map, c.well_formed) in
    rw c.into_iter-k-iterator.ensures.into_iter_gives
    (rewritten_start _ _ _ _ (bumped_outside _ _ _ c.requires.checked.sized.few c.requires.view_value _ _ _ c.entering-entering.ensures) _ c.count-n.ensures.is _ (search rules) l c.members-k-items.ensures)

pub bumped_slot-y-requires : goal.bumped_slot-y-requires
bumped_slot-y-requires c = record { t_bound = rw (← c.count-n.ensures.is) (walk_turn c.loop-k.invariant _ _ c.in-Some.ensures.steps).high }

pub loop-k-preserved : goal.loop-k-preserved
unfolding with_slots slot
loop-k-preserved c =
    rewritten_more _ _ _ _ (bumped_outside _ _ _ c.requires.checked.sized.few c.requires.view_value _ _ _ c.entering-entering.ensures) _ c.count-n.ensures.is _ _ c.loop-k.invariant _ _ _ c.in-Some.ensures.steps (λ h. c.bumped_slot-y.ensures)

pub returns : goal.returns
unfolding after_bump change_slots with_slots
returns c =
    rewritten_done _ _ _ _ (bumped_outside _ _ _ c.requires.checked.sized.few c.requires.view_value _ _ _ c.entering-entering.ensures) _ c.count-n.ensures.is _ _ c.loop-k.invariant c.in-None.ensures.steps
    ∙ rw (bumped_right c.args.sheet.now.bytes c.args.self c.args.view c.args.t c.entering-entering.result c.displaced-leaving.result c.requires.checked.sized.few c.requires.t_bound c.requires.view_value c.entering-entering.ensures c.displaced-leaving.ensures) refl
