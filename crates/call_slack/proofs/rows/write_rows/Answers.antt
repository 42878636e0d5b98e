-- The rows of the parties in the places before k.
use Rattle.call_slack.proofs.RowLengths.{row_length, rows_room}
use Rattle.call_slack.specs.Row.{slack_bytes}
use Rattle.laws.specs.Wrote.{turns_start, turn_more, turns_done}
use Rattle.laws.proofs.Prelude.{◌+◌, ◌*◌, ◌<◌, ◌≡◌, sym, arith}
use Rattle.sheet.specs.Field.{parties}
use Rattle.call_slack.proofs.rows.write_rows.Goals as goal

pub loop-k-init : goal.loop-k-init
loop-k-init c = turns_start _ _ _ (rows_room c.args.sheet.now.bytes c.args.setup.now c.args.position _ c.requires.sheet_in_bounds)

pub loop-k-preserved : goal.loop-k-preserved
loop-k-preserved c =
    let low : c.loop-k.k < parties c.args.sheet.now.bytes = omega (arith, c.loop-k-test.true, c.parties-k-end.ensures.is) in
    let next : 8 * c.loop-k.k + 8 ≡ 8 * (c.loop-k.k + 1) = omega arith in
    rw (← next) (turn_more _ _ _ _ _ _ _ 8 c.loop-k.invariant low
    (sym (row_length c.args.sheet.now.bytes c.args.setup.now c.args.position c.loop-k.k))
    (rw c.party_at-party.ensures at c.write_at.ensures))

pub returns : goal.returns
unfolding slack_bytes
returns c = (turns_done _ _ _ _ _ _ c.loop-k.invariant (omega (arith, c.loop-k-test.false, c.parties-k-end.ensures.is))).is
