-- Four stores.
use Rattle.call_ask.proofs.Commits.{four_stores}
use Rattle.laws.proofs.Prelude.{length-set, arith}
use Rattle.call_ask.proofs.commit.write_step.Goals as goal

pub bounds-out-1 : goal.bounds-out-1
bounds-out-1 c = simp length-set (omega arith)

pub bounds-out-2 : goal.bounds-out-2
bounds-out-2 c = simp length-set (omega arith)

pub returns : goal.returns
returns c = four_stores c.args.step.now c.args.out.now c.requires.step_len
