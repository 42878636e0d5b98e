-- A child of its parent, or for an opening none.
use Rattle.slots.proofs.Parents.{parent_none}
use Rattle.slots.proofs.ByParents.{by_opening, answer_parent}
use Rattle.laws.proofs.Prelude.{◌∙◌, rules}
use Rattle.slots.proofs.conflict.conflict_by.Goals as goal

pub returns-then-up-lt32 : goal.returns-then-up-lt32
returns-then-up-lt32 c = c.has.ensures ∙ answer_parent _ _ _ _ _ c.requires.parents c.parent-up.ensures.is c.if-up-lt32.true

pub returns : goal.returns
returns c = by_opening _ _ _ c.requires.t_value (parent_none (search rules) _ (search rules) (rw (← c.parent-up.ensures.is) c.if-up-lt32.false))
