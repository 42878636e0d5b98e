-- The numbers below k that pass.
use Rattle.laws.proofs.Prelude.{arith}
use Rattle.laws.specs.Calls.{set_of_more}
use Rattle.sheet.proofs.set.below.Goals as goal

pub loop-k-preserved : goal.loop-k-preserved
loop-k-preserved g c = set_of_more _ _ _ _ _ (omega (arith, c.loop-k-test.true, c.requires.n_bound)) c.loop-k.invariant c.test.ensures c.join-found.ensures
