-- Refused, or written.
use Rattle.sheet.proofs.Refusing.{some_refused}
use Rattle.laws.proofs.Prelude.{refl, sym, ◌∙◌}
use Rattle.sheet.proofs.Theorems.{sheet_checked, setup_checked}
use Rattle.call_earliest.proofs.Answers.{unrefused, gives_refused, gives_planned}
use Rattle.call_earliest.proofs.earliest.Goals as goal

pub returns-in-Err : goal.returns-in-Err
returns-in-Err c =
    let whole = gives_refused _ _ _ _ _ _ (c.number.ensures ∙ c.in-Err.ensures) (λ z. some_refused _ (sym c.number.ensures ∙ z)) in
    record { refusal_value = whole.0; count_value = whole.1.0; out_after = whole.1.1 }

pub per_day-requires : goal.per_day-requires
per_day-requires c = let p = unrefused _ _ _ _ _ c.in_default.ensures refl in (setup_checked _ _ p.setup).size

pub of-requires : goal.of-requires
of-requires c = let p = unrefused _ _ _ _ _ c.in_default.ensures refl in (sheet_checked _ p.sheet).sized

pub write_plan-requires : goal.write_plan-requires
write_plan-requires c = let p = unrefused _ _ _ _ _ c.in_default.ensures refl in record { checked = rw c.of.ensures (sheet_checked _ p.sheet); dests_value = rw c.of.ensures p.right; mask_value = rw (c.of.ensures, c.per_day.ensures) p.possible }

pub returns : goal.returns
returns c =
    let whole = gives_planned _ _ _ _ _ _ _ _ _ _ c.in_default.ensures refl c.per_day.ensures (rw c.of.ensures at c.write_plan.ensures.refusal_value, (rw c.of.ensures at c.write_plan.ensures.count_value, rw c.of.ensures at c.write_plan.ensures.out_after)) in
    record { refusal_value = whole.0; count_value = whole.1.0; out_after = whole.1.1 }
