-- The fields of kinds 3 and 4.
use Rattle.laws.proofs.Prelude.{not-true, not-false}
use Rattle.steps.proofs.decode.send_fields.Goals as goal

pub returns-then-not-is_party : goal.returns-then-not-is_party
returns-then-not-is_party c = simp (← c.is_party.ensures, not-true c.is_party.result c.if-not-is_party.true-raw)

pub returns : goal.returns
returns c = simp (← c.is_party.ensures, not-false c.is_party.result c.if-not-is_party.false-raw, ← c.listed_send.ensures)
