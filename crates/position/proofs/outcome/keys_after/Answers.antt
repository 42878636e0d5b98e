-- One more key, or the same.
use Rattle.laws.proofs.Prelude.{one-mul, eq-eqb, arith, tests}
use lib.Pow.{shl_exact}
use Rattle.position.proofs.outcome.keys_after.Goals as goal

pub returns-then-refusal-eq0 : goal.returns-then-refusal-eq0
returns-then-refusal-eq0 c = rw (eq-eqb _ _ c.if-refusal-eq0.true, shl_exact {a = 1} 1 c.args.i 8 (omega arith) (omega arith), one-mul)

pub returns : goal.returns
returns c = simp (tests, c.if-refusal-eq0.false)
