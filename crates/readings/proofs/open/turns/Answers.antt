-- By the kind.
use Rattle.readings.specs.Forms.Context.{turns_in}
use Rattle.laws.proofs.Prelude.{ne_eqb}
use Rattle.readings.proofs.open.turns.Goals as goal

pub returns-in-1 : goal.returns-in-1
unfolding turns_in
returns-in-1 c = rw c.in-1.is c.sharers.ensures

pub returns-in-3 : goal.returns-in-3
unfolding turns_in
returns-in-3 c = rw c.in-3.is c.senders.ensures

pub returns-in-4 : goal.returns-in-4
unfolding turns_in
returns-in-4 c = rw c.in-4.is c.handers.ensures

pub returns-in_default : goal.returns-in_default
unfolding turns_in
returns-in_default c = rw (ne_eqb _ _ c.in_default.in_default-own.rest.1, ne_eqb _ _ c.in_default.in_default-own.rest.0.1, ne_eqb _ _ c.in_default.in_default-own.rest.0.0.1)
