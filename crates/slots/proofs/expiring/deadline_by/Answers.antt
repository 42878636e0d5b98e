-- Never outside the set; else the deadline.
use Rattle.slots.specs.Forms.Expiring.{deadline_by}
use Rattle.laws.proofs.Prelude.{sym, ◌∙◌, not-true, not-false, rules}
use Rattle.slots.proofs.expiring.deadline_by.Goals as goal

pub returns-then-not-has : goal.returns-then-not-has
unfolding deadline_by
returns-then-not-has c = record { is = rw (sym c.has.ensures ∙ not-true _ c.if-not-has.true-raw); small = search rules }

pub returns : goal.returns
unfolding deadline_by
returns c = rw (sym c.has.ensures ∙ not-false _ c.if-not-has.false-raw) c.deadline.ensures
