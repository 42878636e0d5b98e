-- One of the two sets.
use Rattle.position.specs.Forms.FirstShares.{first_set}
use borrow.Author.Tests.{eq-eqb, ne_eqb}
use Rattle.position.proofs.conduct.first_shares.Goals as goal

pub returns-then-party-eq0 : goal.returns-then-party-eq0
unfolding first_set
returns-then-party-eq0 c = rw (eq-eqb _ _ c.if-party-eq0.true)

pub returns : goal.returns
unfolding first_set
returns c = rw (ne_eqb _ _ c.if-party-eq0.false)
