-- The numbers below k that pass.
use Rattle.laws.specs.Calls.{SetOf}
use Rattle.sheet.proofs.set.below.Given as goal

abbrev pub invariant-loop-k : goal.invariant-loop-k
invariant-loop-k g l = SetOf (goal.F-post g l.test) l.k l.found
