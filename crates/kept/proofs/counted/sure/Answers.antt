-- By what each of them is.
use Rattle.kept.specs.Forms.Evaluation.{sure_in}
use Rattle.laws.specs.Calls.{set_of}
use Rattle.std.proofs.Common.{rules, tests}
use Rattle.kept.proofs.counted.sure.Goals as goal

pub returns : goal.returns
unfolding sure_in
returns c = set_of _ _ _ _ (search rules) c.below.ensures (λ k b l e. search (rules, tests))
