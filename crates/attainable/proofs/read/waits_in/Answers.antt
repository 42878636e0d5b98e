-- In the pool or in the block.
use Rattle.attainable.specs.Forms.Others.{waits_in}
use Rattle.attainable.proofs.read.waits_in.Goals as goal

pub returns-then-names_apart : goal.returns-then-names_apart
unfolding waits_in
returns-then-names_apart c = simp (← c.names_apart.ensures, c.if-names_apart.true)

pub returns : goal.returns
unfolding waits_in
returns c = simp (← c.names_apart.ensures, c.if-names_apart.false, c.names_apart-2.ensures)
