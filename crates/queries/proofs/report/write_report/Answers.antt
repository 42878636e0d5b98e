-- The rows of the transactions before t.
use Rattle.position.proofs.ReportLengths.{row_length, rows_room}
use Rattle.queries.proofs.ReportRows.{row_written}
use Rattle.laws.proofs.Prelude.{bytes_of, length_of_map, turns_start, turn_room, turn_end, turn_more, turns_done, ◌≡◌, refl, sym, length, get_or, arith}
use Rattle.position.proofs.Rules.{row_width, report_bytes, slot}
use Rattle.output.specs.Forms.Row.{row_bytes}
use Rattle.queries.proofs.report.write_report.Goals as goal

pub loop-t-init : goal.loop-t-init
loop-t-init c = turns_start _ _ _ (rows_room c.args.sheet.now.bytes c.args.setup.now c.args.position c.args.opened c.count-n.result _ c.count-n.ensures.is c.requires.sheet_in_bounds)

pub slice_bounds-write_row-count : goal.slice_bounds-write_row-count
unfolding report_bytes
slice_bounds-write_row-count c = omega (arith, c.loop-t.invariant.wrote)

pub slice_bounds-write_row-start : goal.slice_bounds-write_row-start
unfolding report_bytes
slice_bounds-write_row-start c = omega (arith, c.loop-t.invariant.wrote)

pub bounds-opened-t : goal.bounds-opened-t
bounds-opened-t c =
    omega (
      arith,
      c.loop-t-test.true,
      c.count-n.ensures.is,
      c.requires.fit.checked.sized.few,
    )

pub write_row-requires : goal.write_row-requires
unfolding row_bytes bytes_of
write_row-requires c = omega (arith, row_length c.args.sheet.now.bytes c.args.setup.now c.args.position c.args.opened c.loop-t.t, turn_room _ _ _ _ _ _ c.loop-t.invariant c.loop-t-test.true)

pub overflow_add-at : goal.overflow_add-at
overflow_add-at c =
    omega (
      arith,
      turn_end _ _ _ _ _ _ row_width c.loop-t.invariant c.loop-t-test.true (sym (row_length c.args.sheet.now.bytes c.args.setup.now c.args.position c.args.opened c.loop-t.t)),
    )

pub loop-t-preserved : goal.loop-t-preserved
unfolding slot
loop-t-preserved c =
    let l : length c.args.position.slots ≡ 32 = search (length_of_map, c.well_formed) in
    let o : length c.args.opened ≡ 32 = search c.well_formed in
    let wrote =
    row_written c.args.sheet.now.bytes c.args.setup.now c.args.position c.args.opened c.loop-t.t _ _ _ _ _ _ (get_or c.args.opened c.loop-t.t 0) c.requires.fit.checked.sized.few l (omega (arith, c.loop-t-test.true, c.count-n.ensures.is))
    c.per_day-per_day.ensures c.requires.view_value
    c.conflicts_of-conflicted.ensures refl
    c.since-since.ensures c.row-r.ensures refl o in
    turn_more _ _ _ _ _ _ _ row_width c.loop-t.invariant c.loop-t-test.true (sym (row_length c.args.sheet.now.bytes c.args.setup.now c.args.position c.args.opened c.loop-t.t)) (rw wrote at c.write_row.ensures)

pub shape_of-out : goal.shape_of-out
unfolding report_bytes
shape_of-out c = c.loop-t.invariant.wrote.long

pub returns : goal.returns
unfolding report_bytes
returns c = rw (← c.count-n.ensures.is) (turns_done _ _ _ _ _ _ c.loop-t.invariant c.loop-t-test.false).is
