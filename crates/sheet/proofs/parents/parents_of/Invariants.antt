-- The parents of the members below k.
use Rattle.sheet.specs.Forms.Parents.{Parents}
use Rattle.laws.proofs.Prelude.{bit}
use Rattle.sheet.proofs.parents.parents_of.Given as goal

abbrev pub invariant-loop-k : goal.invariant-loop-k
invariant-loop-k l = Parents l.sheet.bytes (bit l.members) l.k l.parents
