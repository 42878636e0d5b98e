-- Refused before any swap, too short a buffer, or the answers.
use Rattle.sheet.proofs.Refusing.{some_refused}
use Rattle.laws.proofs.Prelude.{sym, ◌∙◌, arith, refl}
use Rattle.call_desk.proofs.Bundles.{arrays, arrays_some}
use Rattle.call_desk.proofs.Desks.{sheet_passes, bundle_passes, gives_refused, gives_short, gives_whole}
use Rattle.call_desk.proofs.desk.Goals as goal

pub returns-in-Err : goal.returns-in-Err
returns-in-Err c =
    let whole = gives_refused c.args.sheet.now c.args.bundle.now c.args.out.now _ (c.number.ensures ∙ c.in-Err.ensures) (λ z. some_refused _ (sym c.number.ensures ∙ z)) in
    record { value = whole.0; out_after = whole.1 }

pub swaps-n-requires : goal.swaps-n-requires
swaps-n-requires c =
    let z = sym c.in_default.ensures in
    arrays_some _ (arrays _ (bundle_passes c.args.sheet.now c.args.bundle.now z))

pub returns-then-out-n : goal.returns-then-out-n
returns-then-out-n c =
    let whole = gives_short c.args.sheet.now c.args.bundle.now c.args.out.now _ c.in_default.ensures
    refl
    (omega (arith, c.if-out-n.true, c.swaps-n.ensures.is)) in
    record { value = whole.0; out_after = whole.1 }

pub write_answers-requires : goal.write_answers-requires
write_answers-requires c =
    let z = sym c.in_default.ensures in
    record { sheet_value = sheet_passes c.args.sheet.now c.args.bundle.now z; bundle_value = bundle_passes c.args.sheet.now c.args.bundle.now z; bundle_in_bounds = omega (arith, c.if-out-n.false, c.swaps-n.ensures.is) }

pub returns : goal.returns
returns c =
    let whole = gives_whole c.args.sheet.now c.args.bundle.now c.args.out.now _ c.in_default.ensures _
    refl
    (omega (arith, c.if-out-n.false, c.swaps-n.ensures.is))
    c.write_answers.ensures in
    record { value = whole.0; out_after = whole.1 }
