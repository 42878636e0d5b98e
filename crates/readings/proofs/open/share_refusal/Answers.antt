-- Allowed, and new.
use Rattle.readings.proofs.open.share_refusal.Goals as goal

pub returns : goal.returns
returns c = rw (← c.share_allowed-allowed.ensures, ← c.keys.ensures, ← c.share_met-met.ensures) c.conduct_refusal.ensures
