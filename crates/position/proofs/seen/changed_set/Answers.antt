-- By the kind, and by the transaction byte.
use Rattle.laws.proofs.Prelude.{tests, ◌∙◌, eq-eqb, ne_eqb, lt-ltb, le-ltb, arith, one-mul}
use Rattle.position.specs.Forms.Seen.{changed_set}
use lib.Pow.{shl_exact}
use Rattle.position.proofs.seen.changed_set.Goals as goal

pub returns-then-view-eq0 : goal.returns-then-view-eq0
unfolding changed_set
returns-then-view-eq0 c = rw (eq-eqb _ _ c.if-kind-eq6.true, eq-eqb _ _ c.if-view-eq0.true)

pub returns-then-kind-eq6 : goal.returns-then-kind-eq6
unfolding changed_set
returns-then-kind-eq6 c = rw (eq-eqb _ _ c.if-kind-eq6.true, ne_eqb _ _ c.if-view-eq0.false)

pub returns-then-kind-eq7 : goal.returns-then-kind-eq7
unfolding changed_set
returns-then-kind-eq7 c = rw (ne_eqb _ _ c.if-kind-eq6.false, eq-eqb _ _ c.if-kind-eq7.true)

pub returns-then-kind-eq2 : goal.returns-then-kind-eq2
unfolding changed_set
returns-then-kind-eq2 c = simp (tests, c.if-kind-eq6.false, c.if-kind-eq7.false, c.if-kind-eq2.true)

pub returns-then-t-lt32 : goal.returns-then-t-lt32
unfolding changed_set
returns-then-t-lt32 c =
    rw (ne_eqb _ _ c.if-kind-eq6.false, ne_eqb _ _ c.if-kind-eq7.false, ne_eqb _ _ c.if-kind-eq2.false, lt-ltb _ _ c.if-t-lt32.true)
    (shl_exact {a = 1} 1 _ 32 (omega arith) (omega arith) ∙ one-mul _)

pub returns : goal.returns
unfolding changed_set
returns c = rw (ne_eqb _ _ c.if-kind-eq6.false, ne_eqb _ _ c.if-kind-eq7.false, ne_eqb _ _ c.if-kind-eq2.false, le-ltb _ _ c.if-t-lt32.false)
