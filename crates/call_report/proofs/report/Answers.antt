-- Refused before any step, or with the run; too short a buffer, or the rows.
use Rattle.sheet.proofs.Refusing.{some_refused}
use Rattle.call_report.proofs.DatedRuns.{ran_allowed}
use Rattle.call_report.proofs.Reports.{call_refused, report_refused, report_short, report_whole}
use Rattle.dated.specs.declared.Dated.{Dated}
use Rattle.dated.specs.Dated.{dated_start, dated_run}
use Rattle.call_run.specs.declared.row.RowRan.{RowRan}
use Rattle.call_run.specs.Forms.Row.{run_row}
use Rattle.position.proofs.Rules.{journal_steps, call_tests}
use Rattle.call_run.proofs.Calls.{by_sheet, call_fit, journal_whole}
use Rattle.call_run.proofs.Rows.{dated_of, row_dated, view_found}
use Rattle.laws.proofs.Prelude.{ℕ, List, true, first_failing, ◌≡◌, refl, sym, ap, ◌∙◌, arith}
use Rattle.call_report.proofs.report.Goals as goal

-- the run that was found
found : (s u j : List ℕ) (n : ℕ) (d : Dated) (r : RowRan) → n ≡ first_failing (call_tests s u j) → n ≡ 0 → d ≡ dated_start s u
    → r ≡ run_row true s u (journal_steps j) 0 d.position d.opened → dated_of r ≡ dated_run s u j
found s u j n d r e z f g = ran_allowed s u j n d (dated_of r) e z f (ap dated_of g ∙ row_dated _ _ _ _ _ _)

pub returns-in-Err : goal.returns-in-Err
returns-in-Err c = rw (call_refused c.args.sheet.now c.args.setup.now c.args.journal.now c.args.out.now _ (by_sheet _ _ _ _ (c.number.ensures ∙ c.in-Err.ensures) (λ z. some_refused _ (sym c.number.ensures ∙ z))) (λ z. some_refused _ (sym c.number.ensures ∙ z))) (record { value = refl; out_after = refl })

pub call_refusal-requires : goal.call_refusal-requires
call_refusal-requires c = sym c.in_default.ensures

pub returns-in-Err-call_refusal : goal.returns-in-Err-call_refusal
returns-in-Err-call_refusal c = rw (call_refused c.args.sheet.now c.args.setup.now c.args.journal.now c.args.out.now _ (c.number-in-Err-call_refusal.ensures ∙ c.in-Err-call_refusal.ensures) (λ z. some_refused _ (sym c.number-in-Err-call_refusal.ensures ∙ z))) (record { value = refl; out_after = refl })

pub of-requires : goal.of-requires
of-requires c = (call_fit _ _ _ (sym c.in_default-call_refusal.ensures)).checked.sized

pub start-from-requires : goal.start-from-requires
start-from-requires c = rw c.of.ensures (call_fit _ _ _ (sym c.in_default-call_refusal.ensures))

pub run_row-run-requires : goal.run_row-run-requires
run_row-run-requires c =
    let h = sym c.in_default-call_refusal.ensures in
    record { fit = rw c.of.ensures (call_fit _ _ _ h); seen_value = c.start-from.ensures.view_value; journal_len_bound = (journal_whole _ _ _ h).1 }

pub returns-then-run-ne0 : goal.returns-then-run-ne0
returns-then-run-ne0 c = rw (report_refused c.args.sheet.now c.args.setup.now c.args.journal.now _ (found _ _ _ _ _ _ c.in_default-call_refusal.ensures refl (rw c.of.ensures at c.start-from.ensures.dated_value) (rw c.of.ensures at c.run_row-run.ensures)) c.args.out.now c.if-run-ne0.true) (record { value = refl; out_after = refl })

pub returns-then-out-n : goal.returns-then-out-n
returns-then-out-n c =
    rw
    (report_short c.args.sheet.now c.args.setup.now c.args.journal.now _ (found _ _ _ _ _ _ c.in_default-call_refusal.ensures refl (rw c.of.ensures at c.start-from.ensures.dated_value) (rw c.of.ensures at c.run_row-run.ensures)) c.args.out.now
    c.if-run-ne0.false
    (omega (arith, c.if-out-n.true, rw c.of.ensures at c.count-n.ensures.is))) (record { value = refl; out_after = refl })

pub write_report-requires : goal.write_report-requires
write_report-requires c =
    let h = call_fit _ _ _ (sym c.in_default-call_refusal.ensures) in
    record { fit = rw c.of.ensures h; view_value = view_found _ _ _ _ _ _ _ _ c.run_row-run.ensures; sheet_in_bounds = omega (arith, c.if-out-n.false, c.count-n.ensures.is) }

pub returns : goal.returns
returns c =
    rw
    (report_whole c.args.sheet.now c.args.setup.now c.args.journal.now _ (found _ _ _ _ _ _ c.in_default-call_refusal.ensures refl (rw c.of.ensures at c.start-from.ensures.dated_value) (rw c.of.ensures at c.run_row-run.ensures)) c.args.out.now
    c.if-run-ne0.false
    (omega (arith, c.if-out-n.false, rw c.of.ensures at c.count-n.ensures.is))) (record { value = refl; out_after = rw c.of.ensures at c.write_report.ensures })
