-- The least over those below r.
use Rattle.laws.specs.Least.{least_start, least_more, least_done}
use Rattle.laws.proofs.Prelude.{true}
use Rattle.prospect.specs.Forms.Tables.{least_beat}
use Rattle.prospect.proofs.rival.least_beat.Goals as goal

pub loop-r-init : goal.loop-r-init
loop-r-init c = least_start _ _ _

pub loop-r-preserved : goal.loop-r-preserved
loop-r-preserved c = least_more _ (λ k. true) _ _ _ _ _ c.loop-r.invariant c.beat_at.ensures c.lower-best.ensures

pub returns : goal.returns
unfolding least_beat
returns c = least_done _ _ _ _ _ _ c.loop-r.auto.r-end c.loop-r-test.false c.loop-r.invariant
