-- What counts at a rival, else never.
use Rattle.soonest.proofs.deadline.rival_at.Goals as goal

pub returns-then-conflict : goal.returns-then-conflict
returns-then-conflict c = simp (← c.conflict.ensures, c.if-conflict.true, c.counts_at.ensures)

pub returns : goal.returns
returns c = simp (← c.conflict.ensures, c.if-conflict.false)
