-- Beyond the buffer, or its first n bytes.
use Rattle.laws.proofs.Prelude.{length-take-le, sym}
use Rattle.call_ask.proofs.Commits.{run_beyond, run_within}
use Rattle.call_ask.proofs.commit.commit_run.Goals as goal

pub returns-then-buffer-n : goal.returns-then-buffer-n
returns-then-buffer-n c = run_beyond _ _ _ _ _ c.if-buffer-n.true c.open_run.ensures

pub slice_bounds-open_run-end : goal.slice_bounds-open_run-end
slice_bounds-open_run-end c = sym (length-take-le c.args.n c.args.buffer.now c.if-buffer-n.false)

pub returns : goal.returns
returns c = run_within _ _ _ _ _ c.if-buffer-n.false _ c.length_right.ensures c.open_run-2.ensures
