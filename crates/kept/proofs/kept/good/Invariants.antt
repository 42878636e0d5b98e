-- After so many rounds.
use Rattle.kept.specs.Forms.Evaluation.{rounds_in}
use Rattle.laws.proofs.Prelude.{◌≡◌, get_or}
use Rattle.kept.proofs.kept.good.Given as goal

abbrev pub invariant-loop : goal.invariant-loop
invariant-loop l =
    l.found ≡ rounds_in l.up (λ t. get_or l.needs t 0) l.contract l.n l.counter
