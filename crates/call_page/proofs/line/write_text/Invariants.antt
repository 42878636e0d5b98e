-- The column, byte by byte.
use Rattle.call_page.specs.Line.{column}
use Rattle.output.proofs.Writing.{Copied}
use Rattle.call_page.proofs.line.write_text.Given as goal

abbrev pub invariant-loop-i : goal.invariant-loop-i
invariant-loop-i l =
    Copied (column l.width l.text) l.initial.out l.out l.i
