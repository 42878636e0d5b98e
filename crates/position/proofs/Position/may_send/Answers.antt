-- By what sends ask for.
use Rattle.position.proofs.Guards.{send_guards_lem}
use Rattle.laws.proofs.Prelude.{◌∙◌}
use Rattle.position.proofs.Position.may_send.Goals as goal

pub returns : goal.returns
returns c = c.send_allowed.ensures ∙ rw c.send_guards-o.ensures (send_guards_lem _ _ _ _ _)
