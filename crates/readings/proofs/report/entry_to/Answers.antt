-- One less; 0 stays 0.
use Rattle.slots.specs.Slot.{entry_to}
use Rattle.laws.proofs.Prelude.{refl}
use Rattle.readings.proofs.report.entry_to.Goals as goal

pub returns-then-entry-eq0 : goal.returns-then-entry-eq0
unfolding entry_to
returns-then-entry-eq0 c = rw c.if-entry-eq0.true

pub returns : goal.returns
unfolding entry_to
returns c = refl
