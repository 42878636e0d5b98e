-- A party of the sheet, and not the giver.
use Rattle.laws.proofs.Prelude.{tests}
use Rattle.steps.specs.Decode.{is_other}
use Rattle.steps.proofs.decode.is_other.Goals as goal

pub returns-then-is_party : goal.returns-then-is_party
unfolding is_other
returns-then-is_party c = simp (tests, ← c.is_party.ensures, c.if-is_party.true)

pub returns : goal.returns
unfolding is_other
returns c = simp (tests, ← c.is_party.ensures, c.if-is_party.false)
