-- Refused with the run, too short a buffer, or the rows.
use Rattle.call_run.proofs.Runs.{ran_fit}
use Rattle.call_slack.proofs.SlackAnswers.{slack_refused, slack_short, slack_whole, mined_few}
use Rattle.laws.proofs.Prelude.{refl, arith}
use Rattle.call_slack.proofs.slack.Goals as goal

pub returns-then-ran-ne0 : goal.returns-then-ran-ne0
returns-then-ran-ne0 c = rw (slack_refused c.args.sheet.now c.args.setup.now c.args.journal.now _ c.ran-ran.ensures c.args.out.now c.if-ran-ne0.true) (record { value = refl; out_after = refl })

pub parties-n-requires : goal.parties-n-requires
parties-n-requires c =
    let h = (ran_fit _ _ _ _ c.ran-ran.ensures c.if-ran-ne0.false).checked.sized in
    omega (arith, h.head, h.size)

pub returns-then-out-n : goal.returns-then-out-n
returns-then-out-n c =
    rw
    (slack_short c.args.sheet.now c.args.setup.now c.args.journal.now _ c.ran-ran.ensures c.args.out.now
    c.if-ran-ne0.false
    (omega (arith, c.if-out-n.true, c.parties-n.ensures.is))) (record { value = refl; out_after = refl })

pub of-requires : goal.of-requires
of-requires c = (ran_fit _ _ _ _ c.ran-ran.ensures c.if-ran-ne0.false).checked.sized

pub write_rows-requires : goal.write_rows-requires
write_rows-requires c =
    let h = ran_fit _ _ _ _ c.ran-ran.ensures c.if-ran-ne0.false in
    record { fit = rw c.of.ensures h; mined_bound = mined_few _ _ _ h.checked _ c.ran-ran.ensures; sheet_in_bounds = rw c.of.ensures (omega (arith, c.if-out-n.false, c.parties-n.ensures.is)) }

pub returns : goal.returns
returns c =
    rw
    (slack_whole c.args.sheet.now c.args.setup.now c.args.journal.now _ c.ran-ran.ensures c.args.out.now
    c.if-ran-ne0.false
    (omega (arith, c.if-out-n.false, c.parties-n.ensures.is))) (record { value = refl; out_after = rw c.of.ensures at c.write_rows.ensures })
