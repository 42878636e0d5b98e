-- The sum of the two parts.
use Rattle.call_outage.specs.Verdict.{exposed}
use Rattle.call_outage.proofs.verdict.exposed.Goals as goal

pub returns : goal.returns
unfolding exposed
returns c = simp (c.part-a.ensures.0, c.part-b.ensures.0, c.covered.ensures, c.passed.ensures)
