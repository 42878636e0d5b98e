-- Only secrets that are shown by what can come.
use Rattle.laws.proofs.Prelude.{◌-◌}
use Rattle.attainable.proofs.Answers.{Shown}
use Rattle.attainable.proofs.round.attainable.Given as goal

abbrev pub invariant-loop-secrets : goal.invariant-loop-secrets
invariant-loop-secrets l =
    Shown l.sheet.bytes l.others l.also l.secrets

abbrev pub decreases-loop-secrets : goal.decreases-loop-secrets
decreases-loop-secrets l =
    256 - l.secrets
