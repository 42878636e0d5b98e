-- By what each of them is.
use Rattle.kept.specs.Forms.Evaluation.{clear_in}
use Rattle.laws.specs.Calls.{set_of}
use Rattle.std.proofs.Common.{rules, tests}
use Rattle.kept.proofs.kept.clear.Goals as goal

pub returns : goal.returns
unfolding clear_in
returns c = set_of _ _ _ _ (search rules) c.below.ensures (λ k b l e. search (rules, tests))
