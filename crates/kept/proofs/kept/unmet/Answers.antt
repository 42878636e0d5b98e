-- By what each of them is.
use Rattle.kept.specs.Forms.Evaluation.{unmet_in}
use Rattle.laws.specs.Calls.{set_of}
use Rattle.laws.proofs.Prelude.{rules}
use Rattle.kept.proofs.kept.unmet.Goals as goal

pub returns : goal.returns
unfolding unmet_in
returns c = set_of _ _ _ _ (search rules) c.below.ensures (λ k b l e. search rules)
