-- By the phase.
use Rattle.readings.specs.Forms.Context.{senders}
use borrow.Author.Tests.{ne_eqb}
use Rattle.readings.proofs.open.senders.Goals as goal

pub returns-then-o : goal.returns-then-o
unfolding senders
returns-then-o c = rw c.if-o.true

pub returns-then-o-eq0 : goal.returns-then-o-eq0
unfolding senders
returns-then-o-eq0 c = rw (c.if-o.false, c.if-o-eq0.true)

pub returns : goal.returns
unfolding senders
returns c = rw (c.if-o.false, ne_eqb _ _ c.if-o-eq0.false)
