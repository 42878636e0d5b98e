-- By the report's answer.
use Rattle.laws.proofs.Prelude.{◌*◌, sym, arith, length-take-le, tests}
use Rattle.claim_history.specs.Promise.{reported_holders}
use Rattle.claim_history.proofs.held.reported_holders.Goals as goal

pub returns-then-answer-ne0 : goal.returns-then-answer-ne0
unfolding reported_holders
returns-then-answer-ne0 c = simp (tests, c.if-answer-ne0.true)

pub slice_bounds-holders_by-end : goal.slice_bounds-holders_by-end
unfolding reported_holders
slice_bounds-holders_by-end c = sym (length-take-le _ _ (omega (arith, c.count-size.ensures.is, c.requires.sheet_in_bounds)))

pub holders_by-requires : goal.holders_by-requires
holders_by-requires c = record { sheet_in_bounds = omega (arith, c.count-size.ensures.is, length-take-le (18 * c.count-size.result) c.args.report.now (omega (arith, c.count-size.ensures.is, c.requires.sheet_in_bounds))) }

pub returns : goal.returns
unfolding reported_holders
returns c = simp (tests, c.if-answer-ne0.false, ← c.count-size.ensures.is, c.holders_by.ensures)
