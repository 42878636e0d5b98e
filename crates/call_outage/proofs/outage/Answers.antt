-- Refused with the run, too short a buffer, or the rows.
use Rattle.call_run.proofs.Runs.{ran_fit}
use Rattle.call_outage.proofs.OutageAnswers.{outage_refused, outage_short, outage_whole}
use Rattle.laws.proofs.Prelude.{refl, arith}
use Rattle.call_outage.proofs.outage.Goals as goal

pub returns-then-ran-ne0 : goal.returns-then-ran-ne0
returns-then-ran-ne0 c = rw (outage_refused c.args.sheet.now c.args.setup.now c.args.journal.now _ c.ran-ran.ensures c.args.blocks c.args.out.now c.if-ran-ne0.true) (record { value = refl; out_after = refl })

pub count-n-requires : goal.count-n-requires
count-n-requires c =
    let h = (ran_fit _ _ _ _ c.ran-ran.ensures c.if-ran-ne0.false).checked.sized in
    omega (arith, h.head, h.size)

pub returns-then-out-n : goal.returns-then-out-n
returns-then-out-n c =
    rw
    (outage_short c.args.sheet.now c.args.setup.now c.args.journal.now _ c.ran-ran.ensures c.args.blocks c.args.out.now
    c.if-ran-ne0.false
    (omega (arith, c.if-out-n.true, c.count-n.ensures.is))) (record { value = refl; out_after = refl })

pub of-requires : goal.of-requires
of-requires c = (ran_fit _ _ _ _ c.ran-ran.ensures c.if-ran-ne0.false).checked.sized

pub write_rows-requires : goal.write_rows-requires
write_rows-requires c =
    let h = ran_fit _ _ _ _ c.ran-ran.ensures c.if-ran-ne0.false in
    record { fit = rw c.of.ensures h; sheet_in_bounds = rw c.of.ensures (omega (arith, c.if-out-n.false, c.count-n.ensures.is)) }

pub returns : goal.returns
returns c =
    rw
    (outage_whole c.args.sheet.now c.args.setup.now c.args.journal.now _ c.ran-ran.ensures c.args.blocks c.args.out.now
    c.if-ran-ne0.false
    (omega (arith, c.if-out-n.false, c.count-n.ensures.is))) (record { value = refl; out_after = rw c.of.ensures at c.write_rows.ensures })
