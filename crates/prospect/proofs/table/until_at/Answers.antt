-- The lower of the two.
use Rattle.laws.proofs.Prelude.{◌∙◌}
use Rattle.prospect.specs.Forms.Tables.{until_at}
use Rattle.prospect.proofs.table.until_at.Goals as goal

pub returns : goal.returns
unfolding until_at
returns c = c.lower.ensures ∙ rw (c.least_beat.ensures, c.open_until.ensures)
