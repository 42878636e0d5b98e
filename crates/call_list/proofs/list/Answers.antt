-- Refused by the journal, or listed.
use Rattle.call_run.proofs.Runs.{ran_fit}
use Rattle.call_list.proofs.Lists.{gives_refused, gives_passed}
use Rattle.call_list.proofs.list.Goals as goal

pub returns-then-ran-ne0 : goal.returns-then-ran-ne0
returns-then-ran-ne0 c =
    let whole = gives_refused _ _ _ _ _ c.ran-ran.ensures c.if-ran-ne0.true in
    record { refusal_value = whole.0; count_value = whole.1.0; out_after = whole.1.1 }

pub of-requires : goal.of-requires
of-requires c = (ran_fit _ _ _ _ c.ran-ran.ensures c.if-ran-ne0.false).checked.sized

pub write_list-requires : goal.write_list-requires
write_list-requires c = rw c.of.ensures (ran_fit _ _ _ _ c.ran-ran.ensures c.if-ran-ne0.false)

pub returns : goal.returns
returns c =
    let whole = gives_passed _ _ _ _ _ _ _ _ c.ran-ran.ensures c.if-ran-ne0.false (rw c.of.ensures at c.write_list.ensures.refusal_value, (rw c.of.ensures at c.write_list.ensures.count_value, rw c.of.ensures at c.write_list.ensures.out_after)) in
    record { refusal_value = whole.0; count_value = whole.1.0; out_after = whole.1.1 }
