-- The others of its rivals that can come, and itself.
use Rattle.prospect.specs.Forms.Marks.{comers_in}
use Rattle.laws.proofs.Prelude.{◌∙◌}
use Rattle.prospect.proofs.rival.comers.Goals as goal

pub returns : goal.returns
unfolding comers_in
returns c = c.join.ensures ∙ rw (c.comes_apart.ensures, c.remove.ensures)
