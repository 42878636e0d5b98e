-- By the destination.
use Rattle.laws.proofs.Prelude.{sym, ◌∙◌}
use Rattle.steps.proofs.Spelled.{spelled_none, spelled_some}
use Rattle.steps.proofs.decode.spelled.Goals as goal

pub returns-in_err-from_number : goal.returns-in_err-from_number
returns-in_err-from_number c = c.from_residual.ensures ∙ sym (spelled_none _ _ _ _ (rw c.in_err-from_number.was at c.from_number.ensures))

pub returns : goal.returns
returns c = c.of_kind.ensures ∙ sym (spelled_some _ _ _ _ _ (rw c.in_ok-from_number.was at c.from_number.ensures))
