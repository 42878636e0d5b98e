-- The least of what counts at the rivals. The best of those below k.
use Rattle.soonest.specs.Forms.Deadline.{deadline_over}
use Rattle.laws.proofs.Prelude.{least_start, least_more, least_done, rules}
use Rattle.soonest.proofs.deadline.soonest_deadline.Goals as goal

pub loop-k-init : goal.loop-k-init
unfolding deadline_over
loop-k-init c = least_start _ _ _

pub rival_at-requires : goal.rival_at-requires
rival_at-requires c = record { t_bound = c.requires.t_bound; k_bound = search rules; e_bound = c.requires.e_bound; lock = c.lock_at-own.ensures }

pub loop-k-preserved : goal.loop-k-preserved
unfolding deadline_over
loop-k-preserved c = least_more _ _ _ _ _ _ _ c.loop-k.invariant c.rival_at.ensures c.lower-best.ensures

pub returns : goal.returns
unfolding deadline_over
returns c = rw (← c.count-n.ensures.is) (least_done _ _ _ _ _ _ c.loop-k.auto.k-end c.loop-k-test.false c.loop-k.invariant)
