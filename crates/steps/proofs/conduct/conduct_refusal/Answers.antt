-- Both hold, or 13.
use Rattle.sheet.proofs.Refusing.{last}
use Rattle.steps.specs.Tests.{conduct_rule}
use Rattle.steps.proofs.conduct.conduct_refusal.Goals as goal
use Rattle.steps.proofs.conduct.conduct_refusal.Goals.{then-allowed, else-allowed}

pub returns : goal.returns
unfolding conduct_rule
returns c =
    last _ _ _ _ c.require.ensures
    (elim c.if-allowed.branch [
      | then-allowed w ↦ rw (w.require-is, w.if-allowed.true)
      | else-allowed w ↦ rw (w.require-is, w.if-allowed.false)
    ])
