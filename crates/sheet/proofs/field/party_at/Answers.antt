-- By the place.
use Rattle.laws.proofs.Prelude.{tests}
use Rattle.sheet.specs.Field.{party_at}
use Rattle.sheet.proofs.field.party_at.Goals as goal

pub returns-then-k-lt2 : goal.returns-then-k-lt2
unfolding party_at
returns-then-k-lt2 c = simp (tests, c.if-k-lt2.true)

pub returns : goal.returns
unfolding party_at
returns c = simp (tests, c.if-k-lt2.false)
