-- None, or the blocks mined.
use Rattle.dated.specs.Forms.Opens.{first_open_in}
use Rattle.laws.proofs.Prelude.{sym, ◌∙◌, not-true, not-false}
use Rattle.dated.proofs.opens.first_open.Goals as goal

pub opens-requires : goal.opens-requires
unfolding first_open_in
opens-requires c = record { checked = c.requires.checked; t_bound = c.requires.t_bound; t_value = c.requires.t_value }

pub returns-then-not-opens : goal.returns-then-not-opens
unfolding first_open_in
returns-then-not-opens c = rw (sym c.opens.ensures ∙ not-true _ c.if-not-opens.true-raw)

pub returns : goal.returns
unfolding first_open_in
returns c = rw (sym c.opens.ensures ∙ not-false _ c.if-not-opens.false-raw)
