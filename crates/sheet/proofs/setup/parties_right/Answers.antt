-- A sheet of two has any conduct; one of three neither 1 nor 2: check 32.
use Rattle.laws.proofs.Prelude.{not-true, not-false, tests}
use Rattle.sheet.specs.Setup.{parties_right}
use Rattle.sheet.proofs.setup.parties_right.Goals as goal

pub returns-then-not-is_ring : goal.returns-then-not-is_ring
unfolding parties_right
returns-then-not-is_ring c = simp (← c.is_ring.ensures, not-true c.is_ring.result c.if-not-is_ring.true-raw)

pub returns-then-way-eq1 : goal.returns-then-way-eq1
unfolding parties_right
returns-then-way-eq1 c = simp (tests, ← c.is_ring.ensures, not-false c.is_ring.result c.if-not-is_ring.false-raw, ← c.conduct-way.ensures, c.if-way-eq1.true)

pub returns : goal.returns
unfolding parties_right
returns c = simp (tests, ← c.is_ring.ensures, not-false c.is_ring.result c.if-not-is_ring.false-raw, ← c.conduct-way.ensures, c.if-way-eq1.false)
