-- Its bytes, one by one.
use Rattle.call_slack.proofs.RowLengths.{row_counted}
use Rattle.laws.proofs.Prelude.{arith}
use Rattle.call_slack.proofs.rows.write_counted.Goals as goal

pub returns : goal.returns
returns c =
    rw
    (row_counted c.args.sheet.now.bytes c.args.setup.now c.args.position c.args.party c.args.blocks c.args.t _ _
    (omega (arith, c.requires.t_bound, c.requires.fit.checked.sized.few))
    c.destination_of-to.ensures
    c.due-due.ensures)
    c.write_row.ensures
