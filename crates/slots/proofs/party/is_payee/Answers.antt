-- The bit of the party's place among the payees.
use Rattle.laws.proofs.Prelude.{held, not-true, not-false, arith}
use Rattle.sheet.proofs.Parties.{parties_few, place_below}
use Rattle.slots.specs.Destination.{is_payee}
use Rattle.slots.proofs.party.is_payee.Goals as goal

pub returns-then-not-is_party : goal.returns-then-not-is_party
unfolding is_payee
returns-then-not-is_party c = simp (← c.is_party.ensures, not-true c.is_party.result c.if-not-is_party.true-raw)

pub has-requires : goal.has-requires
has-requires c = let h = place_below _ _ (held _ _ c.is_party.ensures c.if-not-is_party.false-raw) in rw c.place.ensures (omega (arith, h, parties_few c.args.sheet.now.bytes))

pub returns : goal.returns
unfolding is_payee
returns c = simp (← c.is_party.ensures, not-false c.is_party.result c.if-not-is_party.false-raw, ← c.payees.ensures, ← c.place.ensures) c.has.ensures
