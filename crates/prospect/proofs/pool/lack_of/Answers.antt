-- None, or the rest.
use Rattle.laws.specs.Mask.{without}
use Rattle.prospect.proofs.pool.lack_of.Goals as goal

pub returns-then-pooled : goal.returns-then-pooled
returns-then-pooled c = simp c.if-pooled.true

pub returns : goal.returns
unfolding without
returns c = simp (c.if-pooled.false, c.from.ensures)
