-- By the kind.
use Rattle.readings.specs.Forms.Context.{candidates_in}
use Rattle.laws.proofs.Prelude.{le-leb, lt-leb}
use Rattle.readings.proofs.open.candidates.Goals as goal

pub returns-then-kind-ge5 : goal.returns-then-kind-ge5
unfolding candidates_in
returns-then-kind-ge5 c = rw (le-leb _ _ c.if-kind-ge5.true) c.turns-turns.ensures

pub returns : goal.returns
unfolding candidates_in
returns c = rw (lt-leb _ _ c.if-kind-ge5.false, ← c.of.ensures, ← c.turns-turns.ensures)
