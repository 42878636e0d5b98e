-- The rows of the transactions before t.
use Rattle.call_outage.proofs.RowLengths.{row_length, rows_room}
use Rattle.call_outage.proofs.RowViews.{above_small, row_right}
use Rattle.call_outage.specs.Verdict.{outage_bytes}
use Rattle.laws.proofs.Prelude.{length_of_map, turns_start, turn_more, turns_done, ◌+◌, ◌*◌, ◌<◌, ◌≡◌, sym, length, arith}
use Rattle.position.proofs.Rules.{count}
use Rattle.call_outage.proofs.rows.write_rows.Goals as goal

pub loop-t-init : goal.loop-t-init
loop-t-init c = turns_start _ _ _ (rows_room c.args.sheet.now.bytes c.args.setup.now c.args.position c.args.blocks _ c.requires.sheet_in_bounds)

pub write_at-requires-clause-t_bound_2 : goal.write_at-requires-clause-t_bound_2
write_at-requires-clause-t_bound_2 c =
    let t : c.loop-t.t < count c.args.sheet.now.bytes = omega (arith, c.loop-t-test.true, c.count-t-end.ensures.is) in
    above_small _ _ _ c.requires.fit.checked _ t _ _ c.per_day-per_day.ensures c.soonest_blocks-soonest.ensures

pub loop-t-preserved : goal.loop-t-preserved
loop-t-preserved c =
    let t : c.loop-t.t < count c.args.sheet.now.bytes = omega (arith, c.loop-t-test.true, c.count-t-end.ensures.is) in
    let n : length c.args.position.slots ≡ 32 = search (length_of_map, c.well_formed) in
    let next : 10 * c.loop-t.t + 10 ≡ 10 * (c.loop-t.t + 1) = omega arith in
    let written =
    row_right c.args.sheet.now.bytes c.args.setup.now c.args.position c.requires.fit.checked c.loop-t.t t _ _
    c.per_day-per_day.ensures
    c.soonest_blocks-soonest.ensures _ _ _
    c.since-since.result c.args.blocks n
    c.view-view.ensures
    c.conflicts_of-conflicted.ensures
    c.lines-lines.ensures
    c.since-since.ensures in
    rw (← next) (turn_more _ _ _ _ _ _ _ 10 c.loop-t.invariant t (sym (row_length c.args.sheet.now.bytes c.args.setup.now c.args.position c.args.blocks c.loop-t.t)) (rw written at c.write_at.ensures))

pub returns : goal.returns
unfolding outage_bytes
returns c = (turns_done _ _ _ _ _ _ c.loop-t.invariant (omega (arith, c.loop-t-test.false, c.count-t-end.ensures.is))).is
