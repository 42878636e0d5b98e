-- Of a party, by destination.
use Rattle.laws.proofs.Prelude.{not-true, not-false}
use Rattle.readings.specs.Forms.Context.{destination_sets}
use Rattle.readings.proofs.open.destination_sets.Goals as goal

pub returns-then-not-is_party : goal.returns-then-not-is_party
unfolding destination_sets
returns-then-not-is_party c = rw (← c.is_party.ensures, not-true c.is_party.result c.if-not-is_party.true-raw)

pub returns : goal.returns
unfolding destination_sets
returns c = rw (← c.is_party.ensures, not-false c.is_party.result c.if-not-is_party.false-raw, c.goes_set-alice.ensures, c.goes_set-bob.ensures, c.goes_set-carol.ensures, c.goes_set-contract.ensures)
