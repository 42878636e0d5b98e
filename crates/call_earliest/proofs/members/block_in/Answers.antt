-- In the set, or not.
use Rattle.laws.proofs.Prelude.{sym, ◌∙◌}
use Rattle.call_earliest.specs.Forms.Table.{block_in}
use Rattle.call_earliest.proofs.members.block_in.Goals as goal

pub returns-then-has : goal.returns-then-has
unfolding block_in
returns-then-has c = rw (sym c.has.ensures ∙ c.if-has.true) c.earliest_block.ensures.is

pub returns : goal.returns
unfolding block_in
returns c = rw (sym c.has.ensures ∙ c.if-has.false)
