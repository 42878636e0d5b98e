-- By the number of parties.
use Rattle.sheet.proofs.Parties.{parties_empty}
use Rattle.sheet.proofs.setup.is_ring.Goals as goal

pub returns-then-sheet-eq0 : goal.returns-then-sheet-eq0
returns-then-sheet-eq0 c = rw (parties_empty _ c.if-sheet-eq0.true)

pub returns : goal.returns
returns c = rw c.parties.ensures.is
