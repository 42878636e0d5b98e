-- The two tests of a length.
use Rattle.laws.specs.Booleans.{tests}
use Rattle.position.specs.Play.{journal_right}
use Rattle.call_run.proofs.journal.journal_right.Goals as goal

pub returns-then-journal-ne0 : goal.returns-then-journal-ne0
unfolding journal_right
returns-then-journal-ne0 c = simp (tests, c.if-journal-ne0.true)

pub returns : goal.returns
unfolding journal_right
returns c = simp c.if-journal-ne0.false
