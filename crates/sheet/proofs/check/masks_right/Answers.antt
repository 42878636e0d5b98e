-- The secrets, then the start masks.
use Rattle.laws.proofs.Prelude.{not-true, not-false}
use Rattle.sheet.specs.Check.{masks_right}
use Rattle.sheet.proofs.check.masks_right.Goals as goal

pub returns-then-not-within : goal.returns-then-not-within
unfolding masks_right
returns-then-not-within c = simp (← c.secrets.ensures, ← c.within.ensures, not-true c.within.result c.if-not-within.true-raw)

pub returns : goal.returns
unfolding masks_right
returns c = simp (← c.secrets.ensures, ← c.within.ensures, not-false c.within.result c.if-not-within.false-raw, ← c.starts_right.ensures)
