-- Transaction 255, conduct 1 or 2, destination 2.
use Rattle.steps.specs.Decode.{first_share_fields}
use Rattle.laws.proofs.Prelude.{tests}
use Rattle.steps.proofs.decode.first_share_fields.Goals as goal

pub returns-then-t-ne-NO_TRANSACTION : goal.returns-then-t-ne-NO_TRANSACTION
unfolding first_share_fields
returns-then-t-ne-NO_TRANSACTION c = simp (tests, c.if-t-ne-NO_TRANSACTION.true)

pub returns-then-conduct-eq0 : goal.returns-then-conduct-eq0
unfolding first_share_fields
returns-then-conduct-eq0 c = simp (tests, c.if-t-ne-NO_TRANSACTION.false, ← c.conduct.ensures, c.if-conduct-eq0.true)

pub returns : goal.returns
unfolding first_share_fields
returns c = simp (tests, c.if-t-ne-NO_TRANSACTION.false, ← c.conduct.ensures, c.if-conduct-eq0.false)
