-- Owed, or not.
use Rattle.readings.proofs.open.bump_refusal.Goals as goal

pub returns : goal.returns
returns c = rw (← c.per_day-per_day.ensures, ← c.owed_at.ensures) c.bump_refusal.ensures
