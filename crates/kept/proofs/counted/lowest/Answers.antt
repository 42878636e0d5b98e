-- The first that is of the set.
use Rattle.std.proofs.Common.{◌≡◌, true, false, arith, rules, tests}
use Rattle.std.proofs.lemmas.Iterator.{first_from_Range}
use Rattle.laws.specs.Mask.{bit}
use Rattle.kept.specs.Forms.Evaluation.{lowest_in}
use Rattle.kept.proofs.LeastPassing.{lowest_first}
use Rattle.kept.proofs.counted.lowest.Goals as goal

pub returns : goal.returns
unfolding lowest_in
returns c =
    lowest_first _ _ _ _ c.find.result (omega (arith, c.requires))
    (first_from_Range _ _ _ _ (λ k. bit c.args.found k ≡ true) (λ k. bit c.args.found k ≡ false) c.find.ensures.ran (λ x q k. search (rules, tests)) (λ x q k. search (rules, tests)))
    (search rules)
