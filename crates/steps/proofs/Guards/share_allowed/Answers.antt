-- Open, or the first shares, or Alice's share.
use Rattle.laws.proofs.Prelude.{tests}
use Rattle.steps.specs.Forms.Conduct.{share_allowed_in}
use Rattle.steps.proofs.Guards.share_allowed.Goals as goal

pub returns-then-self : goal.returns-then-self
unfolding share_allowed_in
returns-then-self c = rw c.if-self.true

pub returns-then-t-eq-NO_TRANSACTION : goal.returns-then-t-eq-NO_TRANSACTION
unfolding share_allowed_in
returns-then-t-eq-NO_TRANSACTION c = simp (tests, c.if-self.false, c.if-t-eq-NO_TRANSACTION.true)

pub returns-then-party-ne0 : goal.returns-then-party-ne0
unfolding share_allowed_in
returns-then-party-ne0 c = simp (tests, c.if-self.false, c.if-t-eq-NO_TRANSACTION.false, c.if-party-ne0.true)

pub returns : goal.returns
unfolding share_allowed_in
returns c = simp (tests, c.if-self.false, c.if-t-eq-NO_TRANSACTION.false, c.if-party-ne0.false, c.alice_shares.ensures)
