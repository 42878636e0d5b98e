-- A mask below two to the number of signatures.
use Rattle.sheet.specs.Check.{within}
use Rattle.sheet.proofs.check.within.Goals as goal

pub returns : goal.returns
unfolding within
returns c = rw (c.limit.ensures, c.from-2.ensures, c.signatures.ensures, c.from.ensures)
