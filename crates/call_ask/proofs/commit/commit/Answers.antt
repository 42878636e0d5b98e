-- Refused, or four bytes over the part after the journal.
use Rattle.laws.proofs.Prelude.{◌≡◌, refl, sym, ◌∙◌, length-drop, arith, to_end}
use Rattle.call_ask.proofs.Commits.{part_written, answer_no, answer_yes, Pass, pass}
use Rattle.call_ask.proofs.commit.commit.Goals as goal
use Rattle.call_ask.proofs.commit.commit.Goals.{After-commit_refusal-refused}

-- all tests pass
passes : (c : After-commit_refusal-refused) → c.commit_refusal-refused.result ≡ 0 → Pass c.args.sheet.now c.args.setup.now c.args.step.now c.args.count c.args.buffer.now c.args.size
passes c z = pass c.args.sheet.now c.args.setup.now c.args.step.now c.args.count c.args.buffer.now c.args.size (sym c.commit_refusal-refused.ensures ∙ z)

pub returns-then-refused-ne0 : goal.returns-then-refused-ne0
returns-then-refused-ne0 c = rw (answer_no c.args.sheet.now c.args.setup.now c.args.step.now c.args.count c.args.buffer.now c.args.size (λ z. c.if-refused-ne0.true (c.commit_refusal-refused.ensures ∙ z))) (record { value = c.commit_refusal-refused.ensures; buffer_after = refl })

pub slice_bounds-write_step-count : goal.slice_bounds-write_step-count
slice_bounds-write_step-count c = (passes (goal.at.slice_bounds-write_step-count c).After-commit_refusal-refused c.if-refused-ne0.false).within

pub slice_bounds-write_step-start : goal.slice_bounds-write_step-start
slice_bounds-write_step-start c = (passes (goal.at.slice_bounds-write_step-start c).After-commit_refusal-refused c.if-refused-ne0.false).within

pub write_step-requires : goal.write_step-requires
write_step-requires c =
    let w = passes (goal.at.write_step-requires c).After-commit_refusal-refused c.if-refused-ne0.false in
    record { step_len = w.four; in_bounds = rw (to_end c.args.buffer.now c.args.size) (omega (arith, w.room, length-drop c.args.size c.args.buffer.now)) }

pub returns : goal.returns
returns c =
    let w = passes (goal.at.returns c).After-commit_refusal-refused c.if-refused-ne0.false in
    rw (answer_yes c.args.sheet.now c.args.setup.now c.args.step.now c.args.count c.args.buffer.now c.args.size (sym c.commit_refusal-refused.ensures ∙ c.if-refused-ne0.false))
    (record { value = refl; buffer_after = part_written c.args.step.now c.args.buffer.now c.args.size _ w.four w.room refl _ c.write_step.ensures })
