-- Refused before the buffer, too short a buffer, or the numbers.
use Rattle.sheet.proofs.Refusing.{some_refused}
use Rattle.call_timelocks.proofs.Answers.{field_fit, all_absolute, answer_refused, answer_short, answer_whole}
use Rattle.laws.proofs.Prelude.{refl, sym, ◌∙◌, arith}
use Rattle.call_timelocks.proofs.timelocks.Goals as goal

pub returns-in-Err : goal.returns-in-Err
returns-in-Err c = rw (answer_refused c.args.sheet.now c.args.setup.now c.args.base c.args.out.now _ (c.number.ensures ∙ c.in-Err.ensures) (λ z. some_refused _ (sym c.number.ensures ∙ z))) (record { value = refl; out_after = refl })

pub count-n-requires : goal.count-n-requires
count-n-requires c =
    let h = (field_fit _ _ _ (sym c.in_default.ensures)).checked.sized in
    omega (arith, h.head, h.size)

pub returns-then-out-n : goal.returns-then-out-n
returns-then-out-n c =
    rw
    (answer_short c.args.sheet.now c.args.setup.now c.args.base c.args.out.now
    (sym c.in_default.ensures)
    (omega (arith, c.if-out-n.true, c.count-n.ensures.is))) (record { value = refl; out_after = refl })

pub per_day-requires : goal.per_day-requires
per_day-requires c = (field_fit _ _ _ (sym c.in_default.ensures)).setup.size

pub of-requires : goal.of-requires
of-requires c = (field_fit _ _ _ (sym c.in_default.ensures)).checked.sized

pub write_fields-requires : goal.write_fields-requires
write_fields-requires c = let z = sym c.in_default.ensures in record { base_value = rw (c.of.ensures, c.per_day.ensures) (all_absolute _ _ _ z); sheet_in_bounds = rw c.of.ensures (omega (arith, c.if-out-n.false, c.count-n.ensures.is)) }

pub returns : goal.returns
returns c =
    rw
    (answer_whole c.args.sheet.now c.args.setup.now c.args.base c.args.out.now
    (sym c.in_default.ensures)
    (omega (arith, c.if-out-n.false, c.count-n.ensures.is)))
    (record { value = refl; out_after = rw (c.of.ensures, c.per_day.ensures) at c.write_fields.ensures })
