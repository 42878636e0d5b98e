-- Refused before any step, or run.
use Rattle.sheet.proofs.Refusing.{some_refused}
use Rattle.laws.proofs.Prelude.{sym, ◌∙◌, refl}
use Rattle.call_run.proofs.Calls.{call_fit, journal_whole}
use Rattle.call_run.proofs.Runs.{run_none, ran_refused, ran_allowed}
use Rattle.call_run.proofs.journal.ran_checked.Goals as goal

pub returns-in-Err : goal.returns-in-Err
returns-in-Err c = c.without_step.ensures ∙ ran_refused _ _ _ _ _ (c.number.ensures ∙ c.in-Err.ensures) (λ z. some_refused _ (sym c.number.ensures ∙ z)) c.start-position.ensures

pub returns-then-journal-eq0 : goal.returns-then-journal-eq0
returns-then-journal-eq0 c = ran_allowed _ _ _ _ _ _ c.in_default.ensures refl c.start-position.ensures (c.without_step-then-journal-eq0.ensures ∙ run_none _ _ _ _ c.if-journal-eq0.true)

pub of-requires : goal.of-requires
of-requires c = let h = sym c.in_default.ensures in (call_fit _ _ _ h).checked.sized

pub start_view-seen-requires : goal.start_view-seen-requires
start_view-seen-requires c = let h = sym c.in_default.ensures in rw c.of.ensures (call_fit _ _ _ h).checked

pub run_seen-requires : goal.run_seen-requires
run_seen-requires c =
    let h = sym c.in_default.ensures in
    record { fit = rw c.of.ensures (call_fit _ _ _ h); seen_value = rw (c.start-position.ensures, c.of.ensures) (rw c.of.ensures at c.start_view-seen.ensures); journal_len_bound = (journal_whole _ _ _ h).1 }

pub returns : goal.returns
returns c = ran_allowed _ _ _ _ _ _ c.in_default.ensures refl c.start-position.ensures (rw c.of.ensures at c.run_seen.ensures)
