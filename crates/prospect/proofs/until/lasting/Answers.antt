-- By the four tests.
use Rattle.laws.specs.Booleans.{tests}
use Rattle.laws.proofs.Prelude.{lt-ltb}
use Rattle.prospect.specs.Forms.Until.{lasting}
use Rattle.prospect.proofs.until.lasting.Goals as goal

pub returns-then-marks-k : goal.returns-then-marks-k
unfolding lasting
returns-then-marks-k c = simp (tests, c.if-marks-k.true)

pub returns-then-has : goal.returns-then-has
unfolding lasting
returns-then-has c = simp (tests, c.if-marks-k.false, ← c.has.ensures, c.if-has.true)

pub returns-then-has-2 : goal.returns-then-has-2
unfolding lasting
returns-then-has-2 c =
    rw (lt-ltb _ _ c.if-marks-k.false, ← c.has.ensures, c.if-has.false, ← c.has-2.ensures, c.if-has-2.true)
    c.has-then-has-2.ensures

pub returns : goal.returns
unfolding lasting
returns c =
    simp (
      tests,
      c.if-marks-k.false,
      ← c.has.ensures,
      c.if-has.false,
      ← c.has-2.ensures,
      c.if-has-2.false,
    )
