-- An opening itself, or a child of its parent.
use Rattle.slots.proofs.ByParents.{answer_opening, answer_child}
use Rattle.slots.proofs.Parents.{parent_below}
use Rattle.laws.proofs.Prelude.{sym, ◌∙◌, rules}
use Rattle.slots.proofs.conflict.conflict_in.Goals as goal

pub returns-then-opening : goal.returns-then-opening
returns-then-opening c = c.has.ensures ∙ answer_opening _ _ _ c.requires.t_bound (sym c.opening.ensures ∙ c.if-opening.true)

pub child_in-requires : goal.child_in-requires
child_in-requires c = let h = parent_below (search rules) _ (search rules) (sym c.opening.ensures ∙ c.if-opening.false) in record { checked = search rules; up_bound = rw c.parent.ensures.is h }

pub returns : goal.returns
returns c = c.child_in.ensures ∙ answer_child _ _ _ _ (sym c.opening.ensures ∙ c.if-opening.false) c.parent.ensures.is
