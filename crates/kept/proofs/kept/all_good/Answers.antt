-- By what each of them is.
use Rattle.laws.specs.Calls.{set_of}
use Rattle.laws.proofs.Prelude.{rules}
use Rattle.kept.proofs.kept.all_good.Goals as goal

pub returns : goal.returns
returns c = set_of _ _ _ _ (search rules) c.below.ensures (λ k b l e. search rules)
