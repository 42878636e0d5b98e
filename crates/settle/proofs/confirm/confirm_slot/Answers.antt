-- Nothing enters or leaves.
use Rattle.laws.proofs.Prelude.{◌∙◌}
use Rattle.settle.proofs.Answers.{mined_confirms}
use Rattle.settle.proofs.confirm.confirm_slot.Goals as goal

pub returns : goal.returns
returns c = c.mined_slot.ensures ∙ mined_confirms _ _ _ _
