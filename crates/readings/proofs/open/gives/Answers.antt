-- Allowed, and the receiver lacks it.
use Rattle.readings.specs.Forms.Context.{gives_in}
use Rattle.sheet.proofs.Refusing.{ok_number}
use Rattle.readings.proofs.open.gives.Goals as goal

pub returns : goal.returns
unfolding gives_in
returns c = rw (← c.give_allowed-allowed.ensures, ← c.keys-receiver.ensures, ← c.keys.ensures, ← c.give_met-met.ensures, c.is_ok.ensures.value, ok_number c.conduct_refusal.result, c.conduct_refusal.ensures)
