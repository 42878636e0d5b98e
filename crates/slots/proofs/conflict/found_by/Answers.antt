-- A member rivals itself; for another one it is the same with and without itself.
use Rattle.slots.proofs.ByParents.{by_self}
use Rattle.slots.proofs.ConflictSets.{conflict_in_outside}
use Rattle.slots.specs.Forms.Conflict.{found_in}
use Rattle.laws.proofs.Prelude.{sym, ◌∙◌, not-true, not-false, rules}
use Rattle.slots.proofs.conflict.found_by.Goals as goal

pub conflict_by-requires : goal.conflict_by-requires
conflict_by-requires c = let out = sym c.has.ensures ∙ not-true _ c.if-not-has.true-raw in search rules

pub returns-then-not-has : goal.returns-then-not-has
returns-then-not-has c = c.conflict_by.ensures ∙ conflict_in_outside _ _ _ _ (sym c.has.ensures ∙ not-true _ c.if-not-has.true-raw)

pub returns-then-others : goal.returns-then-others
unfolding found_in
returns-then-others c = rw c.if-others.true c.other_conflict_in.ensures

pub returns : goal.returns
unfolding found_in
returns c = rw c.if-others.false (by_self _ _ _ c.requires.t_bound (sym c.has.ensures ∙ not-false _ c.if-not-has.false-raw))
