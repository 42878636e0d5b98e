-- The members that were gone through are rewritten; then the blocks mined.
use Rattle.position.proofs.Rewriting.{rewritten_start, rewritten_more, rewritten_done}
use Rattle.position.proofs.BlockSets.{mined_right}
use Rattle.position.proofs.NoEntries.{mined_outside}
use Rattle.slots.proofs.Walks.{walk_turn}
use Rattle.position.specs.Effect.{with_slots, change_slots, with_mined, after_mine}
use Rattle.position.specs.Position.{slot}
use Rattle.laws.proofs.Prelude.{length_of_map, ◌+◌, ◌≡◌, refl, ap, ◌∙◌, length, rules}
use Rattle.position.proofs.Position.after_entries.Goals as goal

pub loop-t-init : goal.loop-t-init
loop-t-init c =
    let l : length c.args.self.slots ≡ 32 = search (length_of_map, c.well_formed) in
    rw c.into_iter-t-iterator.ensures.into_iter_gives
    (rewritten_start _ _ _ _ (mined_outside _ _ _ c.requires.checked.sized.few c.requires.view_value _ _ _ c.affected-members.ensures) _ c.count-n.ensures.is _ (search rules) l c.members-t-items.ensures)

pub mined_slot-y-requires : goal.mined_slot-y-requires
mined_slot-y-requires c = record { t_bound = rw (← c.count-n.ensures.is) (walk_turn c.loop-t.invariant _ _ c.in-Some.ensures.steps).high }

pub loop-t-preserved : goal.loop-t-preserved
unfolding with_slots slot
loop-t-preserved c =
    rewritten_more _ _ _ _ (mined_outside _ _ _ c.requires.checked.sized.few c.requires.view_value _ _ _ c.affected-members.ensures) _ c.count-n.ensures.is _ _ c.loop-t.invariant _ _ _ c.in-Some.ensures.steps (λ h. c.mined_slot-y.ensures)

pub returns : goal.returns
unfolding after_mine with_mined change_slots with_slots
returns c =
    let done = rewritten_done _ _ _ _ (mined_outside _ _ _ c.requires.checked.sized.few c.requires.view_value _ _ _ c.affected-members.ensures) _ c.count-n.ensures.is _ _ c.loop-t.invariant c.in-None.ensures.steps in
    ap (with_mined (c.args.self.mined + 1)) done
    ∙ rw (mined_right c.args.sheet.now.bytes c.args.self c.args.view c.conflicted-leaving.result c.requires.checked.sized.few c.requires.view_value c.conflicted-leaving.ensures) refl
