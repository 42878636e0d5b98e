-- By the kind.
use Rattle.laws.proofs.Prelude.{ne_eqb}
use Rattle.readings.specs.Forms.Context.{party_may}
use Rattle.readings.proofs.open.party_may.Goals as goal

pub returns-in-1 : goal.returns-in-1
unfolding party_may
returns-in-1 c = rw c.in-1.is

pub returns-in-2 : goal.returns-in-2
unfolding party_may
returns-in-2 c = rw c.in-2.is c.is_other.ensures

pub returns-in-3 : goal.returns-in-3
unfolding party_may
returns-in-3 c = rw c.in-3.is c.to_sender.ensures

pub returns-in-4 : goal.returns-in-4
unfolding party_may
returns-in-4 c = rw c.in-4.is c.to_sender-in-4.ensures

pub returns-in_default : goal.returns-in_default
unfolding party_may
returns-in_default c = rw (ne_eqb _ _ c.in_default.in_default-own.rest.1, ne_eqb _ _ c.in_default.in_default-own.rest.0.1, ne_eqb _ _ c.in_default.in_default-own.rest.0.0.1, ne_eqb _ _ c.in_default.in_default-own.rest.0.0.0.1)
