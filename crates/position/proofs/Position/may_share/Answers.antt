-- By the guards.
use Rattle.position.proofs.Guards.{share_guards}
use Rattle.laws.proofs.Prelude.{◌∙◌}
use Rattle.position.proofs.Position.may_share.Goals as goal

pub returns : goal.returns
returns c = c.share_allowed.ensures ∙ rw c.guards-o.ensures (share_guards _ _ _ _ _)
