-- By what each of them needs.
use Rattle.soonest.proofs.Tables.{filled_of}
use Rattle.laws.proofs.Prelude.{rules}
use Rattle.kept.specs.Forms.Evaluation.{aim_in, needs_in}
use Rattle.kept.proofs.kept.all_needs.Goals as goal

pub returns : goal.returns
unfolding aim_in needs_in
returns c = filled_of _ _ _ _ c.filled.ensures (λ k v l e. search rules)
