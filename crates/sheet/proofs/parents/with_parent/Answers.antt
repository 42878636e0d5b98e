-- A member's parent, where a set can have it.
use Rattle.sheet.proofs.ParentSets.{added_none, added_far, added_one}
use Rattle.laws.proofs.Prelude.{joined, sym, ap, ◌∙◌, true, not-true, not-false, arith}
use Rattle.sheet.proofs.parents.with_parent.Goals as goal

pub returns-then-not-has : goal.returns-then-not-has
returns-then-not-has c = added_none _ _ _ _ (sym c.has.ensures ∙ not-true c.has.result c.if-not-has.true-raw)

pub returns-then-up-ge32 : goal.returns-then-up-ge32
returns-then-up-ge32 c = added_far _ _ _ _ (omega (arith, c.if-up-ge32.true, c.parent-up.ensures.is))

pub returns : goal.returns
returns c =
    added_one _ _ _ _ _ (sym c.has.ensures ∙ not-false c.has.result c.if-not-has.false-raw)
    (omega (arith, c.if-up-ge32.false, c.parent-up.ensures.is))
    (c.join.ensures ∙ ap (λ u. joined c.args.parents true u) c.parent-up.ensures.is)
