-- Not confirmed, or by the destination.
use Rattle.laws.proofs.Prelude.{arith, lt-ltb}
use Rattle.prospect.proofs.paid.has_paid.Goals as goal

pub returns-then-x-eq0 : goal.returns-then-x-eq0
returns-then-x-eq0 c = simp c.if-x-eq0.true

pub returns : goal.returns
returns c = rw (lt-ltb 0 c.args.x.height (omega (arith, c.if-x-eq0.false)), c.entry_to.ensures)
