-- By the guards.
use Rattle.position.proofs.Guards.{give_guards}
use Rattle.laws.proofs.Prelude.{◌∙◌}
use Rattle.position.proofs.Position.may_give.Goals as goal

pub returns : goal.returns
returns c = c.give_allowed.ensures ∙ rw c.guards-o.ensures (give_guards _ _ _ _ _)
