-- By the destination.
use Rattle.readings.specs.Forms.Context.{goes_to}
use Rattle.laws.proofs.Prelude.{ne_eqb}
use Rattle.readings.proofs.open.goes_to.Goals as goal

pub returns-then-destination-eq2 : goal.returns-then-destination-eq2
unfolding goes_to
returns-then-destination-eq2 c = rw c.if-destination-eq2.true c.is_contract.ensures

pub returns : goal.returns
unfolding goes_to
returns c = rw (ne_eqb _ _ c.if-destination-eq2.false) c.is_payee.ensures
