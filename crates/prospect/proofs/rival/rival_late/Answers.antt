-- A rival's height, else none.
use Rattle.prospect.proofs.rival.rival_late.Goals as goal

pub returns-then-has : goal.returns-then-has
returns-then-has c = rw (← c.has.ensures, c.if-has.true) c.late_at.ensures

pub returns : goal.returns
returns c = rw (← c.has.ensures, c.if-has.false)
