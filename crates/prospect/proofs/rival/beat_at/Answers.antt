-- What is told of the two.
use Rattle.prospect.specs.Forms.Tables.{beat_at}
use Rattle.laws.proofs.Prelude.{◌∙◌}
use Rattle.prospect.proofs.rival.beat_at.Goals as goal

pub returns : goal.returns
unfolding beat_at
returns c = c.beat_from.ensures ∙ rw (c.sooner_at.ensures, c.waits_at.ensures, c.comes_at.ensures)
