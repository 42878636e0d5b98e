-- A height for each pair.
use Rattle.std.proofs.Common.{rules, tests}
use Rattle.prospect.proofs.Cells.{cells_of}
use Rattle.prospect.proofs.table.beats.Goals as goal

pub returns : goal.returns
returns c = cells_of _ _ _ _ c.filled.ensures (λ i v l e. search (rules, tests))
