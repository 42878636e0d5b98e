-- Of those below c.
use Rattle.kept.specs.Forms.Evaluation.{parents_in}
use Rattle.laws.specs.Unions.{union_start, union_more, union_done}
use Rattle.kept.proofs.kept.parents.Goals as goal

pub loop-c-init : goal.loop-c-init
loop-c-init c = union_start _

pub loop-c-preserved : goal.loop-c-preserved
loop-c-preserved c = union_more _ _ _ _ c.loop-c.invariant (rw (← c.has.ensures) c.where_good-found.ensures)

pub returns : goal.returns
unfolding parents_in
returns c = union_done _ _ _ _ c.loop-c.auto.c-end c.loop-c-test.false c.loop-c.invariant
