-- Refused before any step, no step refused, or shrunk.
use Rattle.sheet.proofs.Refusing.{some_refused}
use Rattle.laws.proofs.Prelude.{sym, ◌∙◌, arith}
use Rattle.call_run.proofs.Calls.{call_fit}
use Rattle.call_shrink.proofs.Answering.{calls_pass, calls_short, answer_long, answer_none, ran_whole, row_fits, row_length, row_still, answer_row}
use Rattle.call_shrink.proofs.shrink.Goals as goal

pub returns-in-Err : goal.returns-in-Err
returns-in-Err c =
    let whole = answer_long _ _ _ _ _ (c.number.ensures ∙ c.in-Err.ensures) (λ z. some_refused _ (sym c.number.ensures ∙ z)) in
    record { refusal_value = whole.0; count_value = whole.1.0; out_after = whole.1.1 }

pub of-requires : goal.of-requires
of-requires c = (call_fit _ _ _ (calls_pass _ _ _ (sym c.in_default.ensures))).checked.sized

pub run_from-ran-requires : goal.run_from-ran-requires
run_from-ran-requires c =
    let z = sym c.in_default.ensures in
    record { fit = rw c.of.ensures (call_fit _ _ _ (calls_pass _ _ _ z)); journal_len_bound = omega (arith, calls_short _ _ _ z) }

pub returns-then-ran-eq0 : goal.returns-then-ran-eq0
returns-then-ran-eq0 c =
    let z = sym c.in_default.ensures in
    let e = ran_whole _ _ _ z _ c.start.ensures _ (rw c.of.ensures at c.run_from-ran.ensures) in
    let whole = answer_none _ _ _ c.args.out.now z (rw e at c.if-ran-eq0.true) in
    record { refusal_value = whole.0; count_value = whole.1.0; out_after = whole.1.1 }

pub slice_bounds-write_shrunk-end : goal.slice_bounds-write_shrunk-end
slice_bounds-write_shrunk-end c = sym (row_length _ _ _ (sym c.in_default.ensures) _ c.start.ensures _ (rw c.of.ensures at c.run_from-ran.ensures) c.if-ran-eq0.false)

pub write_shrunk-requires : goal.write_shrunk-requires
write_shrunk-requires c =
    let z = sym c.in_default.ensures in
    let l = row_length _ _ _ z _ c.start.ensures _ (rw c.of.ensures at c.run_from-ran.ensures) c.if-ran-eq0.false in
    let f = row_fits _ _ _ z _ c.start.ensures _ (rw c.of.ensures at c.run_from-ran.ensures) c.if-ran-eq0.false in
    let s = row_still _ _ _ z _ c.start.ensures _ (rw c.of.ensures at c.run_from-ran.ensures) c.if-ran-eq0.false in
    record { fit = rw c.of.ensures (call_fit _ _ _ (calls_pass _ _ _ z)); row_len_bound = omega (arith, l, calls_short _ _ _ z, f); row_len = omega (arith, l); row_value = rw c.of.ensures s }

pub returns : goal.returns
returns c = rw (answer_row _ _ _ (sym c.in_default.ensures) _ c.start.ensures _ (rw c.of.ensures at c.run_from-ran.ensures) c.if-ran-eq0.false _) (record { refusal_value = rw c.of.ensures at c.write_shrunk.ensures.refusal_value; count_value = rw c.of.ensures at c.write_shrunk.ensures.count_value; out_after = rw c.of.ensures at c.write_shrunk.ensures.out_after })
