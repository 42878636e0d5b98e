-- Not the miner, and in a place of the sheet.
use Rattle.laws.proofs.Prelude.{tests}
use Rattle.sheet.specs.Field.{is_party}
use Rattle.sheet.proofs.field.is_party.Goals as goal

pub returns-then-party-eq2 : goal.returns-then-party-eq2
unfolding is_party
returns-then-party-eq2 c = simp (tests, c.if-party-eq2.true)

pub returns : goal.returns
unfolding is_party
returns c = simp (tests, c.if-party-eq2.false, c.parties.ensures.is, c.from.ensures, c.place.ensures)
