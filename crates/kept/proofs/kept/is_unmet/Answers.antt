-- By the height, by whom it comes for, then by what it leaves.
use Rattle.kept.specs.Forms.Evaluation.{is_unmet_in}
use Rattle.laws.specs.Booleans.{tests}
use Rattle.laws.proofs.Prelude.{and-false}
use Rattle.kept.proofs.kept.is_unmet.Goals as goal

pub returns-then-aim-beat : goal.returns-then-aim-beat
unfolding is_unmet_in
returns-then-aim-beat c = simp (tests, c.if-aim-beat.true)

pub returns-then-has : goal.returns-then-has
unfolding is_unmet_in
returns-then-has c = simp (← c.has.ensures, c.if-has.true, and-false)

pub returns : goal.returns
unfolding is_unmet_in
returns c =
    simp (
      tests,
      c.if-aim-beat.false,
      ← c.has.ensures,
      c.if-has.false,
      ← c.clear-found.ensures,
      ← c.reaches.ensures,
    )
