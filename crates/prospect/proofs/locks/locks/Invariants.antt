-- Those below t.
use Rattle.soonest.specs.Forms.Table.{Filled}
use Rattle.prospect.specs.Forms.Marks.{OwnLock}
use Rattle.prospect.proofs.locks.locks.Given as goal

abbrev pub invariant-loop-t : goal.invariant-loop-t
invariant-loop-t l =
    Filled (OwnLock l.sheet.bytes l.setup l.position) l.t l.table
