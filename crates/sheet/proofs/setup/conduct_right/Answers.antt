-- Conduct and stealth are in range, and the sheet fits the conduct: check 10.
use Rattle.sheet.specs.Setup.{conduct_right}
use Rattle.laws.proofs.Prelude.{tests}
use Rattle.sheet.proofs.setup.conduct_right.Goals as goal

pub returns-then-way-gt2 : goal.returns-then-way-gt2
unfolding conduct_right
returns-then-way-gt2 c = simp (tests, ← c.conduct-way.ensures, c.if-way-gt2.true)

pub returns-then-stealth-gt1 : goal.returns-then-stealth-gt1
unfolding conduct_right
returns-then-stealth-gt1 c = simp (tests, ← c.conduct-way.ensures, c.if-way-gt2.false, ← c.stealth.ensures, c.if-stealth-gt1.true)

pub returns-then-way-eq0 : goal.returns-then-way-eq0
unfolding conduct_right
returns-then-way-eq0 c = simp (tests, ← c.conduct-way.ensures, ← c.stealth.ensures, c.if-stealth-gt1.false, c.if-way-eq0.true)

pub returns : goal.returns
unfolding conduct_right
returns c = simp (tests, ← c.conduct-way.ensures, c.if-way-gt2.false, ← c.stealth.ensures, c.if-stealth-gt1.false, c.if-way-eq0.false, ← c.per_day.ensures, ← c.is_saswap.ensures)
