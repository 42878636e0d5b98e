-- By the entry.
use Rattle.laws.proofs.Prelude.{sym}
use Rattle.attainable.proofs.Ways.{names_none, names_far, names_one}
use Rattle.attainable.proofs.read.names_apart.Goals as goal

pub returns-then-entry-eq0 : goal.returns-then-entry-eq0
returns-then-entry-eq0 c = sym (names_none _ _ c.if-entry-eq0.true)

pub returns-then-entry-gt4 : goal.returns-then-entry-gt4
returns-then-entry-gt4 c = sym (names_far _ _ c.if-entry-gt4.true)

pub returns : goal.returns
returns c = sym (names_one _ _ c.if-entry-eq0.false c.if-entry-gt4.false)
