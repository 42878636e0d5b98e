-- A lock no later, then the pool.
use Rattle.prospect.specs.Forms.Thresholds.{sooner_from}
use Rattle.laws.specs.Booleans.{tests}
use Rattle.prospect.proofs.threshold.sooner_from.Goals as goal

pub returns-then-his-own : goal.returns-then-his-own
unfolding sooner_from
returns-then-his-own c = simp (tests, c.if-his-own.true)

pub returns-then-pooled : goal.returns-then-pooled
unfolding sooner_from
returns-then-pooled c = simp (tests, c.if-his-own.false, c.if-pooled.true)

pub returns : goal.returns
unfolding sooner_from
returns c = simp (tests, c.if-his-own.false, c.if-pooled.false, c.sooner_above.ensures)
