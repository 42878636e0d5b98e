-- By the signatures.
use Rattle.prospect.specs.Forms.Tables.{fails_at}
use Rattle.prospect.proofs.table.fails_at.Goals as goal

pub returns-then-sure : goal.returns-then-sure
unfolding fails_at
returns-then-sure c = rw (← c.sure.ensures, c.if-sure.true) c.open_until.ensures

pub returns : goal.returns
unfolding fails_at
returns c = rw (← c.sure.ensures, c.if-sure.false)
