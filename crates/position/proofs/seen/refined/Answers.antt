-- By the kind.
use Rattle.position.specs.Forms.Seen.{refined_set}
use Rattle.laws.proofs.Prelude.{eq-eqb, ne_eqb}
use Rattle.position.proofs.seen.refined.Goals as goal

pub returns-then-kind-eq6 : goal.returns-then-kind-eq6
unfolding refined_set
returns-then-kind-eq6 c = rw (eq-eqb _ _ c.if-kind-eq6.true, ← c.conflicted.ensures) c.affected.ensures

pub returns : goal.returns
unfolding refined_set
returns c = rw (ne_eqb _ _ c.if-kind-eq6.false)
