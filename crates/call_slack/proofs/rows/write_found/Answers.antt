-- The row of nothing counted on, or of a transaction.
use Rattle.call_slack.proofs.RowLengths.{row_none}
use Rattle.call_slack.proofs.rows.write_found.Goals as goal

pub returns-then-t-eq-NOBODY : goal.returns-then-t-eq-NOBODY
returns-then-t-eq-NOBODY c =
    rw
    (row_none c.args.sheet.now.bytes c.args.setup.now c.requires.fit.checked c.args.position c.args.party c.args.blocks c.args.t
    c.if-t-eq-NOBODY.true)
    c.write_row.ensures

pub write_counted-requires : goal.write_counted-requires
write_counted-requires c = record { fit = c.requires.fit; in_bounds = c.requires.in_bounds; t_bound = c.requires.t_bound c.if-t-eq-NOBODY.false }

pub returns : goal.returns
returns c = c.write_counted.ensures
