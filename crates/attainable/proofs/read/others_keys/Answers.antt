-- The keys of the parties below k.
use Rattle.attainable.proofs.Masks.{union_start, union_more, union_done}
use Rattle.attainable.proofs.read.others_keys.Goals as goal

pub loop-k-init : goal.loop-k-init
loop-k-init c = union_start _

pub loop-k-preserved : goal.loop-k-preserved
loop-k-preserved c = union_more _ _ _ _ c.loop-k.invariant (rw (← c.party_at.ensures) c.other_keys-found.ensures)

pub returns : goal.returns
returns c = rw (← c.parties-n.ensures.is) (union_done _ _ _ _ c.loop-k.auto.k-end c.loop-k-test.false c.loop-k.invariant)
