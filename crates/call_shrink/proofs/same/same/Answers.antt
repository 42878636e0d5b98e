-- All parts are the same.
use Rattle.laws.proofs.Prelude.{sym, ◌∙◌}
use Rattle.call_shrink.proofs.SameParts.{position_told}
use Rattle.call_shrink.proofs.same.same.Goals as goal

pub returns : goal.returns
returns c = λ e. position_told _ _ (sym c.eq.ensures ∙ e)
