-- A party has the mask of its place.
use Rattle.laws.proofs.Prelude.{sym}
use Rattle.sheet.proofs.Parties.{start_empty}
use Rattle.sheet.specs.Field.{start_keys}
use Rattle.sheet.proofs.field.start_keys.Goals as goal

pub returns-then-sheet-eq0 : goal.returns-then-sheet-eq0
returns-then-sheet-eq0 c = sym (start_empty _ _ c.if-sheet-eq0.true)

pub returns-then-is_party : goal.returns-then-is_party
unfolding start_keys
returns-then-is_party c = rw (c.byte_or_zero.ensures, c.from.ensures, c.place.ensures, ← c.is_party.ensures, c.if-is_party.true)

pub returns : goal.returns
unfolding start_keys
returns c = rw (← c.is_party.ensures, c.if-is_party.false)
