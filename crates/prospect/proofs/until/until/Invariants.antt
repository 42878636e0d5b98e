-- The heights in the places before i.
use Rattle.prospect.specs.Forms.Tables.{Cells}
use Rattle.prospect.specs.Forms.Until.{Holds, Lasts}
use Rattle.prospect.proofs.until.until.Given as goal

abbrev pub invariant-loop-i : goal.invariant-loop-i
invariant-loop-i l =
    Holds l.sheet.bytes l.others l.found × Cells (Lasts l.sheet.bytes l.marks l.others) l.i l.table
