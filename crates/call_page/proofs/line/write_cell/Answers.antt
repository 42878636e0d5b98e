-- The header's column, or a transaction's.
use Rattle.readings.specs.Reported.{reported_line}
use Rattle.call_page.proofs.Columns.{room_as, written_as}
use Rattle.call_page.proofs.Lines.{cell_header, cell_row}
use Rattle.call_page.proofs.line.write_cell.Goals as goal

pub write_title-requires : goal.write_title-requires
write_title-requires c = record { k_bound = c.requires.k_bound; k_in_bounds = room_as (cell_header (reported_line c.args.report.now) c.args.i c.args.k c.if-i-eq0.true) c.requires.k_in_bounds }

pub returns-then-i-eq0 : goal.returns-then-i-eq0
returns-then-i-eq0 c =
    let whole = written_as (cell_header (reported_line c.args.report.now) c.args.i c.args.k c.if-i-eq0.true) _ (c.write_title.ensures.value, c.write_title.ensures.out_after) in
    record { value = whole.0; out_after = whole.1 }

pub write_value-requires : goal.write_value-requires
write_value-requires c = record { k_bound = c.requires.k_bound; k_in_bounds = room_as (cell_row (reported_line c.args.report.now) c.args.i c.args.k _ c.if-i-eq0.false c.transaction_line.ensures) c.requires.k_in_bounds }

pub returns : goal.returns
returns c =
    let whole = written_as (cell_row (reported_line c.args.report.now) c.args.i c.args.k _ c.if-i-eq0.false c.transaction_line.ensures) _ (c.write_value.ensures.value, c.write_value.ensures.out_after) in
    record { value = whole.0; out_after = whole.1 }
