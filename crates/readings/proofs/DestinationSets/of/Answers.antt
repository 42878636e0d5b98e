-- By the destination.
use borrow.Author.Tests.{ne_eqb}
use Rattle.readings.specs.Forms.Context.{destination_set}
use Rattle.readings.proofs.DestinationSets.of.Goals as goal

pub returns-in-0 : goal.returns-in-0
unfolding destination_set
returns-in-0 c = rw c.in-0.is

pub returns-in-1 : goal.returns-in-1
unfolding destination_set
returns-in-1 c = rw c.in-1.is

pub returns-in-3 : goal.returns-in-3
unfolding destination_set
returns-in-3 c = rw c.in-3.is

pub returns-in_default : goal.returns-in_default
unfolding destination_set
returns-in_default c = rw (ne_eqb _ _ c.in_default.in_default-own.rest.1, ne_eqb _ _ c.in_default.in_default-own.rest.0.1, ne_eqb _ _ c.in_default.in_default-own.rest.0.0.1)
