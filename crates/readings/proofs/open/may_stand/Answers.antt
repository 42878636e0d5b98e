-- By the actor, then the kind.
use Rattle.laws.proofs.Prelude.{ne_eqb}
use Rattle.readings.specs.Forms.Context.{may_stand}
use Rattle.readings.proofs.open.may_stand.Goals as goal

pub returns-then-is_party : goal.returns-then-is_party
unfolding may_stand
returns-then-is_party c = rw (← c.is_party.ensures, c.if-is_party.true) c.party_may.ensures

pub returns-then-actor-ne2 : goal.returns-then-actor-ne2
unfolding may_stand
returns-then-actor-ne2 c = rw (← c.is_party.ensures, c.if-is_party.false, ne_eqb _ _ c.if-actor-ne2.true)

pub returns-then-kind-eq5 : goal.returns-then-kind-eq5
unfolding may_stand
returns-then-kind-eq5 c = rw (← c.is_party.ensures, c.if-is_party.false, c.if-actor-ne2.false, c.if-kind-eq5.true)

pub returns-then-kind-eq7 : goal.returns-then-kind-eq7
unfolding may_stand
returns-then-kind-eq7 c = rw (← c.is_party.ensures, c.if-is_party.false, c.if-actor-ne2.false, ne_eqb _ _ c.if-kind-eq5.false, c.if-kind-eq7.true)

pub returns : goal.returns
unfolding may_stand
returns c = rw (← c.is_party.ensures, c.if-is_party.false, c.if-actor-ne2.false, ne_eqb _ _ c.if-kind-eq5.false, ne_eqb _ _ c.if-kind-eq7.false)
