-- The lock height, or never.
use Rattle.prospect.specs.Forms.Tables.{ends_at}
use Rattle.prospect.proofs.table.ends_at.Goals as goal

pub returns-then-dated : goal.returns-then-dated
unfolding ends_at
returns-then-dated c = rw (← c.dated.ensures, c.if-dated.true)

pub returns : goal.returns
unfolding ends_at
returns c = rw (← c.dated.ensures, c.if-dated.false)
