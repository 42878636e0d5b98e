-- After so many rounds.
use Rattle.kept.proofs.Rounds.{rounds_start, rounds_more, rounds_end, rounds_done}
use Rattle.kept.proofs.kept.good.Goals as goal

pub loop-init : goal.loop-init
loop-init c = rounds_start _ _ _ _

pub returns-then-next-found : goal.returns-then-next-found
returns-then-next-found c = rounds_end _ _ _ _ _ _ _ _ c.loop.auto.counter-end c.loop.invariant c.parents.ensures c.all_good-next.ensures c.if-next-found.true

pub loop-preserved : goal.loop-preserved
loop-preserved c = rounds_more _ _ _ _ _ _ _ _ c.loop.invariant c.parents.ensures c.all_good-next.ensures

pub returns : goal.returns
returns c = rounds_done _ _ _ _ _ _ c.loop.auto.counter-end c.loop-test.false c.loop.invariant
