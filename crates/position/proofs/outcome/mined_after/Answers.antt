-- One more, or as many.
use Rattle.laws.proofs.Prelude.{tests, rules}
use Rattle.position.proofs.outcome.mined_after.Goals as goal

pub overflow_add-result : goal.overflow_add-result
overflow_add-result c = let l = c.requires c.if-refusal-eq0.true in search (rules, l)

pub returns-then-refusal-eq0 : goal.returns-then-refusal-eq0
returns-then-refusal-eq0 c = simp (tests, c.if-refusal-eq0.true)

pub returns : goal.returns
returns c = simp (tests, c.if-refusal-eq0.false)
