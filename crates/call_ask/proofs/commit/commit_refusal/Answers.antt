-- The tests one after another.
use Rattle.laws.proofs.Prelude.{◌≤◌, length, arith}
use Rattle.call_ask.specs.Commit.{commit_run}
use Rattle.call_ask.proofs.Opens.{opened_fit}
use Rattle.call_ask.proofs.Commits.{by_journal, by_count, by_step, by_room, by_none, run_stands}
use Rattle.call_ask.proofs.commit.commit_refusal.Goals as goal
use Rattle.call_ask.proofs.commit.commit_refusal.Goals.{After-step_number-of_step}

-- the journal stands within the buffer
stands : (c : After-step_number-of_step) → c.args.n ≤ length c.args.buffer.now
stands c =
    (run_stands c.args.sheet.now c.args.setup.now c.args.step.now c.args.count c.args.buffer.now c.args.n _ c.commit_run-ran.ensures c.if-ran-ne0.false).0

pub returns-then-ran-ne0 : goal.returns-then-ran-ne0
unfolding commit_run
returns-then-ran-ne0 c = by_journal _ _ _ _ _ _ _ c.commit_run-ran.ensures c.if-ran-ne0.true

pub returns-then-count-ran : goal.returns-then-count-ran
unfolding commit_run
returns-then-count-ran c = by_count _ _ _ _ _ _ _ c.commit_run-ran.ensures c.if-ran-ne0.false c.if-count-ran.true

pub of-requires : goal.of-requires
unfolding commit_run
of-requires c = (opened_fit _ _ _ _ _ c.commit_run-ran.ensures c.if-ran-ne0.false).checked.sized

pub step_number-of_step-requires : goal.step_number-of_step-requires
unfolding commit_run
step_number-of_step-requires c = rw c.of.ensures (opened_fit _ _ _ _ _ c.commit_run-ran.ensures c.if-ran-ne0.false)

pub returns-then-of_step-ne0 : goal.returns-then-of_step-ne0
returns-then-of_step-ne0 c =
    by_step _ _ _ _ _ _ _ c.commit_run-ran.ensures
    c.if-ran-ne0.false c.if-count-ran.false _ (rw c.of.ensures at c.step_number-of_step.ensures)
    c.if-of_step-ne0.true

pub overflow_sub-buffer : goal.overflow_sub-buffer
unfolding commit_run
overflow_sub-buffer c = stands (goal.at.overflow_sub-buffer c).After-step_number-of_step

pub returns-then-buffer-n-lt4 : goal.returns-then-buffer-n-lt4
returns-then-buffer-n-lt4 c =
    by_room _ _ _ _ _ _ _ c.commit_run-ran.ensures
    c.if-ran-ne0.false c.if-count-ran.false _
    (rw c.of.ensures at c.step_number-of_step.ensures) c.if-of_step-ne0.false (omega (arith, c.if-buffer-n-lt4.true, stands (goal.at.returns-then-buffer-n-lt4 c).After-step_number-of_step))

pub returns : goal.returns
returns c =
    by_none _ _ _ _ _ _ _ c.commit_run-ran.ensures
    c.if-ran-ne0.false c.if-count-ran.false _
    (rw c.of.ensures at c.step_number-of_step.ensures) c.if-of_step-ne0.false (omega (arith, c.if-buffer-n-lt4.false, stands (goal.at.returns c).After-step_number-of_step))
