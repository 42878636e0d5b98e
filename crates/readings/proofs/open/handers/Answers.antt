-- With stealth.
use Rattle.laws.proofs.Prelude.{eq-eqb, ne_eqb}
use Rattle.readings.proofs.open.handers.Goals as goal

pub returns-then-stealth-ne1 : goal.returns-then-stealth-ne1
returns-then-stealth-ne1 c = rw (← c.stealth.ensures, ne_eqb _ _ c.if-stealth-ne1.true)

pub returns : goal.returns
returns c = rw (← c.stealth.ensures, eq-eqb _ _ c.if-stealth-ne1.false) c.senders.ensures
