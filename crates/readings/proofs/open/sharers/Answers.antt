-- By the phase and the party.
use Rattle.readings.specs.Forms.Context.{sharers}
use borrow.Author.Tests.{ne_eqb, eq-eqb}
use Rattle.readings.proofs.open.sharers.Goals as goal

pub returns-then-o : goal.returns-then-o
unfolding sharers
returns-then-o c = rw c.if-o.true

pub returns-then-o-ne3 : goal.returns-then-o-ne3
unfolding sharers
returns-then-o-ne3 c = rw (c.if-o.false, ne_eqb _ _ c.if-o-ne3.true)

pub returns-then-actor-ne0 : goal.returns-then-actor-ne0
unfolding sharers
returns-then-actor-ne0 c = rw (c.if-o.false, eq-eqb _ _ c.if-o-ne3.false, ne_eqb _ _ c.if-actor-ne0.true)

pub returns : goal.returns
unfolding sharers
returns c = rw (c.if-o.false, eq-eqb _ _ c.if-o-ne3.false, eq-eqb _ _ c.if-actor-ne0.false)
