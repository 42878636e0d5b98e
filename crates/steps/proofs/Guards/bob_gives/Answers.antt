-- Phase, signature, what Bob has for success, and the time.
use Rattle.laws.proofs.Prelude.{tests, not-true, not-false}
use Rattle.steps.specs.Conduct.{bob_gives_rule}
use Rattle.steps.proofs.Guards.bob_gives.Goals as goal

pub returns-then-self-lt2 : goal.returns-then-self-lt2
unfolding bob_gives_rule
returns-then-self-lt2 c = simp (tests, c.if-self-lt2.true)

pub returns-then-i-ne-SECRET_BOB : goal.returns-then-i-ne-SECRET_BOB
unfolding bob_gives_rule
returns-then-i-ne-SECRET_BOB c = simp (tests, c.if-self-lt2.false, c.if-i-ne-SECRET_BOB.true)

pub returns-then-not-has : goal.returns-then-not-has
unfolding bob_gives_rule
returns-then-not-has c = simp (tests, c.if-self-lt2.false, c.if-i-ne-SECRET_BOB.false, ← c.has.ensures, not-true c.has.result c.if-not-has.true-raw)

pub returns-then-has : goal.returns-then-has
unfolding bob_gives_rule
returns-then-has c = simp (tests, c.if-self-lt2.false, c.if-i-ne-SECRET_BOB.false, ← c.has.ensures, not-false c.has.result c.if-not-has.false-raw, ← c.has-2.ensures, c.if-has.true)

pub returns : goal.returns
unfolding bob_gives_rule
returns c = simp (tests, c.if-self-lt2.false, c.if-i-ne-SECRET_BOB.false, ← c.has.ensures, not-false c.has.result c.if-not-has.false-raw, ← c.has-2.ensures, c.if-has.false)
