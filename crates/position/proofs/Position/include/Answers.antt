-- The tests, and the slot that is stored.
use Rattle.position.proofs.Outcomes.{include_outcome}
use Rattle.position.proofs.MineTests.{include_answer}
use Rattle.position.specs.Position.{slot}
use Rattle.position.specs.Effect.{with_slots}
use Rattle.laws.proofs.Prelude.{◌∙◌, ◌<◌, rules, arith}
use Rattle.position.proofs.Position.include.Goals as goal

pub bounds-self-k-2 : goal.bounds-self-k-2
bounds-self-k-2 c = let l : c.from-k.result < 32 = omega (arith, c.from-k.ensures, c.requires.t_bound, c.requires.fit.checked.sized.few) in search (rules, l)

pub returns : goal.returns
unfolding slot with_slots
returns c =
    include_outcome _ _ _ _ _ _ _ _ _ _ c.from-k.ensures c.slot_after-after.ensures
    (include_answer _ _ _ c.requires.fit.checked _ (rw c.from-k.ensures c.requires.t_bound) _ _ _ c.requires.view_value c.any_owed-any.ensures (c.number_of-refusal.ensures ∙ c.include_refusal.ensures))
    c.with_block-included.ensures
