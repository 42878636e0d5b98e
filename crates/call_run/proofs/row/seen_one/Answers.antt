-- None, or one.
use Rattle.laws.proofs.Prelude.{eq-eqb, ne_eqb}
use Rattle.call_run.proofs.row.seen_one.Goals as goal

pub returns-then-members-eq0 : goal.returns-then-members-eq0
returns-then-members-eq0 c = rw (eq-eqb _ _ c.if-members-eq0.true) c.passed.ensures

pub returns : goal.returns
returns c = rw (ne_eqb _ _ c.if-members-eq0.false) c.after.ensures
