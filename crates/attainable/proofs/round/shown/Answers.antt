-- The secrets of the members below t.
use Rattle.attainable.specs.Forms.Round.{shown_at, shown_in}
use Rattle.attainable.proofs.Masks.{union_start, union_more, union_done}
use Rattle.attainable.proofs.round.shown.Goals as goal

pub loop-t-init : goal.loop-t-init
loop-t-init c = union_start _

pub loop-t-preserved : goal.loop-t-preserved
unfolding shown_at
loop-t-preserved c = union_more _ _ _ _ c.loop-t.invariant c.shown_by-found.ensures

pub returns : goal.returns
unfolding shown_in
returns c = rw (← c.count-n.ensures.is) (union_done _ _ _ _ c.loop-t.auto.t-end c.loop-t-test.false c.loop-t.invariant)
