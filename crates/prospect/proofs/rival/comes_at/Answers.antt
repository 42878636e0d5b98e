-- By the two tests.
use Rattle.prospect.proofs.rival.comes_at.Goals as goal

pub returns-then-held : goal.returns-then-held
returns-then-held c = rw (← c.held.ensures, c.if-held.true)

pub returns : goal.returns
returns c = rw (← c.held.ensures, c.if-held.false) c.has.ensures
