-- By its definition.
use Rattle.call_outage.specs.Verdict.{is_passed}
use mathlib.Core.Path.{refl}
use Rattle.call_outage.proofs.verdict.passed.Goals as goal

pub returns : goal.returns
unfolding is_passed
returns c = refl
