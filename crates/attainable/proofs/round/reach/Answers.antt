-- Those below t, each over its parent.
use Rattle.laws.proofs.Prelude.{rules, arith, set_start, set_more, set_done}
use Rattle.attainable.specs.Forms.Round.{reach_set}
use Rattle.attainable.proofs.Reaching.{reach_turn}
use Rattle.attainable.proofs.round.reach.Goals as goal

pub loop-t-init : goal.loop-t-init
loop-t-init c = set_start _

pub loop-t-preserved : goal.loop-t-preserved
loop-t-preserved c = set_more _ _ _ _ _ c.loop-t.invariant c.join-found.ensures (reach_turn _ (search rules) _ _ _ _ _ _ c.loop-t.invariant (search rules) (search rules) (omega arith) c.reaches.ensures)

pub returns : goal.returns
unfolding reach_set
returns c = rw (← c.count-n.ensures.is) (set_done _ _ _ _ c.loop-t.auto.t-end c.loop-t-test.false c.loop-t.invariant)
