-- The lock, the signatures, then the rivals.
use Rattle.dated.proofs.OpenViews.{under_lock, unsigned, by_rival}
use Rattle.laws.proofs.Prelude.{sym, ◌∙◌, not-true, not-false}
use Rattle.dated.proofs.opens.opens.Goals as goal

pub returns-then-not-lock_reached : goal.returns-then-not-lock_reached
returns-then-not-lock_reached c = under_lock _ _ _ _ _ _ c.requires.t_value (sym c.lock_reached.ensures ∙ not-true _ c.if-not-lock_reached.true-raw)

pub returns-then-not-at_hand_of_some : goal.returns-then-not-at_hand_of_some
returns-then-not-at_hand_of_some c =
    unsigned _ _ _ _ _ _
    c.requires.t_value
    (sym c.lock_reached.ensures ∙ not-false _ c.if-not-lock_reached.false-raw)
    (sym c.at_hand_of_some.ensures ∙ not-true _ c.if-not-at_hand_of_some.true-raw)

pub returns : goal.returns
returns c =
    by_rival _ _ _ _ _ _ _ c.conflict_in.ensures
    c.requires.t_value
    (sym c.lock_reached.ensures ∙ not-false _ c.if-not-lock_reached.false-raw)
    (sym c.at_hand_of_some.ensures ∙ not-false _ c.if-not-at_hand_of_some.false-raw)
