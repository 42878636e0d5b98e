-- By the two sets.
use Rattle.prospect.proofs.table.dated.Goals as goal

pub returns-then-has : goal.returns-then-has
returns-then-has c = rw (← c.has.ensures, c.if-has.true) c.has-then-has.ensures

pub returns : goal.returns
returns c = rw (← c.has.ensures, c.if-has.false)
