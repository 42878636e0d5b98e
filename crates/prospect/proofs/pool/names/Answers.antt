-- None, or by the destination.
use Rattle.prospect.proofs.Entries.{names_none, names_one}
use Rattle.prospect.proofs.pool.names.Goals as goal

pub returns-then-entry-eq0 : goal.returns-then-entry-eq0
returns-then-entry-eq0 c = names_none _ _ c.if-entry-eq0.true

pub returns : goal.returns
returns c = names_one _ _ c.if-entry-eq0.false
