-- Not under open conduct; else allowed and new.
use Rattle.readings.specs.Forms.Context.{shares_first}
use Rattle.laws.proofs.Prelude.{ne_eqb}
use Rattle.sheet.proofs.Refusing.{ok_number}
use Rattle.readings.proofs.open.shares_first.Goals as goal

pub returns-then-conduct-eq0 : goal.returns-then-conduct-eq0
unfolding shares_first
returns-then-conduct-eq0 c = rw (← c.conduct.ensures, c.if-conduct-eq0.true)

pub returns : goal.returns
unfolding shares_first
returns c = rw (← c.conduct.ensures, ne_eqb _ _ c.if-conduct-eq0.false, ← c.share_allowed-allowed.ensures, c.is_ok.ensures.value, ok_number c.conduct_refusal.result, c.conduct_refusal.ensures)
