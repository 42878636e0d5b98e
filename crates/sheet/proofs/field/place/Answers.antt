-- By the number.
use Rattle.laws.proofs.Prelude.{tests}
use Rattle.sheet.specs.Field.{place}
use Rattle.sheet.proofs.field.place.Goals as goal

pub returns-then-party-lt2 : goal.returns-then-party-lt2
unfolding place
returns-then-party-lt2 c = simp (tests, c.if-party-lt2.true)

pub returns : goal.returns
unfolding place
returns c = simp (tests, c.if-party-lt2.false)
