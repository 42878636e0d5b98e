-- The fields of kind 2.
use Rattle.laws.proofs.Prelude.{tests, not-true, not-false}
use Rattle.steps.proofs.decode.give_fields.Goals as goal

pub returns-then-not-is_party : goal.returns-then-not-is_party
returns-then-not-is_party c = simp (← c.is_party.ensures, not-true c.is_party.result c.if-not-is_party.true-raw)

pub returns-then-i-signatures : goal.returns-then-i-signatures
returns-then-i-signatures c = simp (tests, ← c.is_party.ensures, not-false c.is_party.result c.if-not-is_party.false-raw, ← c.signatures.ensures, c.if-i-signatures.true, ← c.is_other.ensures)

pub returns : goal.returns
returns c = simp (tests, ← c.is_party.ensures, not-false c.is_party.result c.if-not-is_party.false-raw, ← c.signatures.ensures, c.if-i-signatures.false)
