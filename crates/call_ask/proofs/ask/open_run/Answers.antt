-- Run's own, or refused by the length.
use Rattle.laws.proofs.Prelude.{◌∙◌}
use Rattle.call_ask.proofs.Opens.{open_right, open_wrong}
use Rattle.call_ask.proofs.ask.open_run.Goals as goal

pub returns-then-right : goal.returns-then-right
returns-then-right c = rw c.if-right.true (c.ran.ensures ∙ open_right _ _ _)

pub returns : goal.returns
returns c = rw (c.if-right.false, c.number_of.ensures, c.length_refusal.ensures, c.start.ensures) (open_wrong _ _ _)
