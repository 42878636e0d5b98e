-- The least over the rivals below r.
use Rattle.laws.specs.Least.{least_start, least_more, least_done}
use Rattle.prospect.specs.Forms.Tables.{least_late}
use Rattle.prospect.proofs.rival.least_late.Goals as goal

pub loop-r-init : goal.loop-r-init
loop-r-init c = least_start _ _ _

pub loop-r-preserved : goal.loop-r-preserved
loop-r-preserved c = least_more _ _ _ _ _ _ _ c.loop-r.invariant c.rival_late.ensures c.lower-best.ensures

pub returns : goal.returns
unfolding least_late
returns c = least_done _ _ _ _ _ _ c.loop-r.auto.r-end c.loop-r-test.false c.loop-r.invariant
