-- Only a block that could not go changes it.
use Rattle.laws.proofs.Prelude.{refl, eq-eqb, ne_eqb}
use Rattle.call_shrink.specs.Forms.Round.{lost_after}
use Rattle.call_shrink.proofs.round.lost_after.Goals as goal

pub returns-then-going : goal.returns-then-going
unfolding lost_after
returns-then-going c = rw c.if-going.true refl

pub returns-then-kind-ne6 : goal.returns-then-kind-ne6
unfolding lost_after
returns-then-kind-ne6 c = rw (c.if-going.false, ne_eqb _ _ c.if-kind-ne6.true) refl

pub returns : goal.returns
unfolding lost_after
returns c = rw (c.if-going.false, eq-eqb _ _ c.if-kind-ne6.false) refl
