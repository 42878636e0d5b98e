-- By the first byte.
use Rattle.laws.proofs.Prelude.{tests, rules}
use Rattle.sheet.specs.Field.{parties}
use Rattle.sheet.proofs.field.parties.Goals as goal

pub returns-then-sheet-lt128 : goal.returns-then-sheet-lt128
unfolding parties
returns-then-sheet-lt128 c = record { is = simp (tests, c.if-sheet-lt128.true); some = search rules; few = search rules }

pub returns : goal.returns
unfolding parties
returns c = record { is = simp (tests, c.if-sheet-lt128.false); some = search rules; few = search rules }
