-- Not a party, open conduct, or the phase.
use Rattle.queries.specs.Forms.OpenSets.{is_idle}
use Rattle.laws.proofs.Prelude.{sym, ◌∙◌, not-true, not-false}
use Rattle.queries.proofs.open.is_idle.Goals as goal

pub returns-then-not-is_party : goal.returns-then-not-is_party
unfolding is_idle
returns-then-not-is_party c = rw (sym c.is_party.ensures ∙ not-true _ c.if-not-is_party.true-raw)

pub returns-then-o : goal.returns-then-o
unfolding is_idle
returns-then-o c = rw (sym c.is_party.ensures ∙ not-false _ c.if-not-is_party.false-raw, c.if-o.true)

pub returns : goal.returns
unfolding is_idle
returns c = rw (sym c.is_party.ensures ∙ not-false _ c.if-not-is_party.false-raw, c.if-o.false)
