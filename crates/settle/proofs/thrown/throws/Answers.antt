-- By the rivals of y's line.
use Rattle.laws.proofs.Prelude.{◌∙◌}
use Rattle.settle.specs.Forms.Thrown.{throws_in}
use Rattle.settle.proofs.Answers.{line_meets}
use Rattle.settle.proofs.thrown.throws.Goals as goal

pub returns-then-has : goal.returns-then-has
unfolding throws_in
returns-then-has c =
    rw (← c.has.ensures, c.if-has.true)
    (c.in_ancestry.ensures ∙ line_meets _ c.requires.checked.sized.few _ _ _ _ c.requires.g_bound c.requires.y_bound c.line_of-line.ensures c.conflicts_of-rivals.ensures)

pub returns : goal.returns
unfolding throws_in
returns c = simp (← c.has.ensures, c.if-has.false)
