-- The fields of kind 1.
use Rattle.laws.proofs.Prelude.{not-true, not-false}
use Rattle.steps.proofs.decode.share_fields.Goals as goal

pub returns-then-not-is_party : goal.returns-then-not-is_party
returns-then-not-is_party c = simp (← c.is_party.ensures, not-true c.is_party.result c.if-not-is_party.true-raw)

pub returns-then-listed_share : goal.returns-then-listed_share
returns-then-listed_share c = simp (← c.is_party.ensures, not-false c.is_party.result c.if-not-is_party.false-raw, ← c.listed_share.ensures, c.if-listed_share.true)

pub returns : goal.returns
returns c = simp (← c.is_party.ensures, not-false c.is_party.result c.if-not-is_party.false-raw, ← c.listed_share.ensures, c.if-listed_share.false, ← c.first_share_fields.ensures)
