-- No two of one coin, and all in time.
use Rattle.endings.specs.Ending.{is_possible}
use Rattle.endings.proofs.ending.is_possible.Goals as goal

pub returns-then-all_apart : goal.returns-then-all_apart
unfolding is_possible
returns-then-all_apart c = simp (← c.all_apart.ensures, c.if-all_apart.true, ← c.all_in_time.ensures)

pub returns : goal.returns
unfolding is_possible
returns c = simp (← c.all_apart.ensures, c.if-all_apart.false)
