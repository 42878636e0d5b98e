-- The run, refused or not.
use Rattle.printed.proofs.Lines.{counted, first_accepted, first_refused}
use Rattle.printed.proofs.first_line.Goals as goal

pub returns-then-ran-ne0 : goal.returns-then-ran-ne0
returns-then-ran-ne0 c =
    let whole = first_refused _ _ _ _ c.ran-ran.ensures c.if-ran-ne0.true in
    record { blocks_value = whole.0; lines_value = whole.1.0; lines_bound = whole.1.1 }

pub count-requires : goal.count-requires
count-requires c = counted _ _ _ _ c.ran-ran.ensures c.if-ran-ne0.false

pub returns : goal.returns
returns c =
    let whole = first_accepted _ _ _ _ c.ran-ran.ensures _ c.if-ran-ne0.false c.count.ensures.is in
    record { blocks_value = rw c.from.ensures whole.0; lines_value = whole.1.0; lines_bound = whole.1.1 }
