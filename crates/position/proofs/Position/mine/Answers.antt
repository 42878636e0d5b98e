-- The tests; then a block with entries, or the blocks mined.
use Rattle.position.proofs.Outcomes.{outcome, mined_outcome, entries_accepted, entries_of_lem}
use Rattle.position.proofs.SoonestDue.{mine_found}
use Rattle.position.proofs.EmptyBlocks.{answer_empty}
use Rattle.position.specs.Tests.{mine_tests}
use Rattle.position.specs.StepRefusal.{tests, step_refusal}
use Rattle.position.specs.Effect.{with_mined, effect}
use Rattle.laws.proofs.Prelude.{passed, refl, sym, ◌∙◌, ltb-true}
use Rattle.position.proofs.Position.mine.Goals as goal

pub after_entries-position-requires : goal.after_entries-position-requires
unfolding mine_tests
after_entries-position-requires c =
    let z = entries_accepted _ _ _ c.entries_after.ensures c.if-entries_after-ne0.true in
    record { checked = c.requires.fit.checked; view_value = c.requires.view_value; mined_bound = ltb-true _ _ (passed _ refl (sym (mine_found _ _ _ c.requires.fit.checked _ _ _ _ c.requires.view_value c.requires.due_value c.is_next-any.ensures (c.number_of-refusal.ensures ∙ c.mine_refusal.ensures)) ∙ z) 23) }

pub returns-then-entries_after-ne0 : goal.returns-then-entries_after-ne0
unfolding step_refusal tests effect
returns-then-entries_after-ne0 c =
    let z = entries_accepted _ _ _ c.entries_after.ensures c.if-entries_after-ne0.true in
    outcome _ _ _ _ _ (mine_found _ _ _ c.requires.fit.checked _ _ _ _ c.requires.view_value c.requires.due_value c.is_next-any.ensures (c.number_of-refusal.ensures ∙ c.mine_refusal.ensures)) _ (λ a. c.after_entries-position.ensures) (λ n. absurd (n z))

pub mined_after-mined-requires : goal.mined_after-mined-requires
unfolding mine_tests
mined_after-mined-requires c = λ z. ltb-true _ _ (passed _ refl (sym (mine_found _ _ _ c.requires.fit.checked _ _ _ _ c.requires.view_value c.requires.due_value c.is_next-any.ensures (c.number_of-refusal.ensures ∙ c.mine_refusal.ensures)) ∙ z) 23)

pub returns : goal.returns
unfolding step_refusal tests effect with_mined
returns c =
    mined_outcome _ _ _ _ _ (mine_found _ _ _ c.requires.fit.checked _ _ _ _ c.requires.view_value c.requires.due_value c.is_next-any.ensures (c.number_of-refusal.ensures ∙ c.mine_refusal.ensures)) _
    (λ z. answer_empty _ _ _ c.requires.fit.checked.sized.few c.requires.view_value (entries_of_lem _ _ _ c.entries_after.ensures c.if-entries_after-ne0.false z))
    c.mined_after-mined.ensures
