-- Open, or Alice's gift, or Bob's.
use Rattle.laws.proofs.Prelude.{tests, or-false}
use Rattle.steps.specs.Forms.Conduct.{give_allowed_in}
use Rattle.steps.proofs.Guards.give_allowed.Goals as goal

pub returns-then-self : goal.returns-then-self
unfolding give_allowed_in
returns-then-self c = rw c.if-self.true

pub returns-then-party-eq0 : goal.returns-then-party-eq0
unfolding give_allowed_in
returns-then-party-eq0 c = simp (tests, c.if-self.false, c.if-party-eq0.true, c.alice_gives.ensures, or-false)

pub returns-then-party-eq1 : goal.returns-then-party-eq1
unfolding give_allowed_in
returns-then-party-eq1 c = rw (c.if-self.false, c.if-party-eq1.true) c.bob_gives.ensures

pub returns : goal.returns
unfolding give_allowed_in
returns c = simp (tests, c.if-self.false, c.if-party-eq0.false, c.if-party-eq1.false)
