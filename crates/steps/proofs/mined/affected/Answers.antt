-- The block's, or the pool's too.
use Rattle.steps.specs.Forms.Blocks.{affected_in}
use borrow.Author.Tests.{eq-eqb, ne_eqb}
use Rattle.steps.proofs.mined.affected.Goals as goal

pub returns-then-leaving-eq0 : goal.returns-then-leaving-eq0
unfolding affected_in
returns-then-leaving-eq0 c = rw (eq-eqb _ _ c.if-leaving-eq0.true)

pub returns : goal.returns
unfolding affected_in
returns c = rw (ne_eqb _ _ c.if-leaving-eq0.false)
