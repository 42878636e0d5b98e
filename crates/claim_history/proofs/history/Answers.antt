-- The refusals, and the promise of what was played.
use Rattle.sheet.proofs.Refusing.{some_refused}
use Rattle.laws.proofs.Prelude.{◌≡◌, sym, ◌∙◌, rules, arith}
use Rattle.position.proofs.Rules.{sheet_refusal, setup_refusal}
use Rattle.sheet.proofs.Theorems.{fit}
use Rattle.claim_history.proofs.Playing.{accepted_fits}
use Rattle.claim_history.proofs.Promised.{sheet_refused, setup_refused, bytes_room, accepted_short, report_short, part_length, played_promise}
use Rattle.claim_history.proofs.history.Goals as goal
use Rattle.claim_history.proofs.history.Goals.{After-play_steps-played}

-- where the steps are played, sheet and setup have passed
passed : (c : After-play_steps-played) → (sheet_refusal c.args.sheet.now ≡ 0) × (setup_refusal c.args.sheet.now c.args.setup.now ≡ 0)
passed c = (sym c.in_default.ensures, sym c.in_default-setup_refusal.ensures)

pub returns-in-Err : goal.returns-in-Err
returns-in-Err c = sheet_refused _ _ _ _ _ _ _ (c.number.ensures ∙ c.in-Err.ensures) (λ z. some_refused _ (sym c.number.ensures ∙ z)) c.unplayed.ensures

pub returns-in-Err-setup_refusal : goal.returns-in-Err-setup_refusal
returns-in-Err-setup_refusal c =
    let h = sym c.in_default.ensures in
    setup_refused _ _ _ _ _ h _ _ (c.number-in-Err-setup_refusal.ensures ∙ c.in-Err-setup_refusal.ensures) (λ z. some_refused _ (sym c.number-in-Err-setup_refusal.ensures ∙ z)) c.unplayed-in-Err-setup_refusal.ensures

pub of-requires : goal.of-requires
of-requires c = (fit _ _ (sym c.in_default.ensures) (sym c.in_default-setup_refusal.ensures)).checked.sized

pub play_steps-played-requires : goal.play_steps-played-requires
play_steps-played-requires c =
    let h = sym c.in_default.ensures in
    let k = sym c.in_default-setup_refusal.ensures in
    rw c.of.ensures (fit _ _ h k)

pub overflow_mul-used : goal.overflow_mul-used
overflow_mul-used c = omega (arith, accepted_fits _ _ _ _ _ (rw c.of.ensures at c.play_steps-played.ensures.accepted_value))

pub returns-then-accepted-used : goal.returns-then-accepted-used
returns-then-accepted-used c = accepted_short _ _ _ _ _ (passed (goal.at.returns-then-accepted-used c).After-play_steps-played).0 (passed (goal.at.returns-then-accepted-used c).After-play_steps-played).1 _ (rw c.of.ensures at c.play_steps-played.ensures.accepted_value) _ c.if-accepted-used.true c.unplayed-then-accepted-used.ensures

pub count-requires : goal.count-requires
count-requires c =
    let p = passed (goal.at.count-requires c).After-play_steps-played in
    let z = (fit _ _ p.0 p.1).checked.sized in
    omega (arith, z.head, z.size)

pub returns-then-report-count : goal.returns-then-report-count
returns-then-report-count c =
    report_short _ _ _ _ _ (passed (goal.at.returns-then-report-count c).After-play_steps-played).0 (passed (goal.at.returns-then-report-count c).After-play_steps-played).1 _ (rw c.of.ensures at c.play_steps-played.ensures.accepted_value)
    c.if-accepted-used.false _ (omega (arith, c.count.ensures.is, c.if-report-count.true))
    c.unplayed-then-report-count.ensures

pub write_accepted-requires : goal.write_accepted-requires
write_accepted-requires c = record { fit = rw c.of.ensures (fit _ _ (passed (goal.at.write_accepted-requires c).After-play_steps-played).0 (passed (goal.at.write_accepted-requires c).After-play_steps-played).1); sheet_in_bounds = rw c.of.ensures (bytes_room _ _ _ c.args.accepted.now _ (rw c.of.ensures at c.play_steps-played.ensures.accepted_value) c.if-accepted-used.false) }

pub slice_bounds-report-end-2 : goal.slice_bounds-report-end-2
slice_bounds-report-end-2 c =
    part_length _ _ _ _ _ (rw c.of.ensures at c.play_steps-played.ensures.accepted_value)
    c.if-accepted-used.false _ (rw c.of.ensures at c.write_accepted.ensures)

pub holders_in-held-requires : goal.holders_in-held-requires
holders_in-held-requires c = let p = passed (goal.at.holders_in-held-requires c).After-play_steps-played in rw c.of.ensures (fit _ _ p.0 p.1).checked

pub reported_holders-reported-requires : goal.reported_holders-reported-requires
reported_holders-reported-requires c = let p = passed (goal.at.reported_holders-reported-requires c).After-play_steps-played in record { sheet_in_bounds = rw c.of.ensures (search rules) }

pub returns : goal.returns
returns c =
    played_promise _ _ _ _ _ (passed (goal.at.returns c).After-play_steps-played).0 (passed (goal.at.returns c).After-play_steps-played).1 _ (rw c.of.ensures at c.play_steps-played.ensures.accepted_value) c.if-accepted-used.false
    (omega (arith, c.count.ensures.is, c.if-report-count.false)) _ _ _ _ _ _
    (rw c.of.ensures at c.play_steps-played.ensures.position_value) (rw c.of.ensures at c.write_accepted.ensures) c.report-answer.ensures.value c.report-answer.ensures.out_after
    (rw c.of.ensures at c.holders_in-held.ensures) (rw c.of.ensures at c.reported_holders-reported.ensures)
