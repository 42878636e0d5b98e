-- The first two bytes.
use Rattle.sheet.specs.Setup.{per_day}
use Rattle.sheet.proofs.setup.per_day.Goals as goal

pub returns : goal.returns
unfolding per_day
returns c = c.u16_at.ensures
