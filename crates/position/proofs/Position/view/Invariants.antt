-- The view of the transactions below k.
use Rattle.position.specs.Forms.View.{view_below}
use Rattle.laws.proofs.Prelude.{◌≡◌}
use Rattle.position.proofs.Position.view.Given as goal

abbrev pub invariant-loop-k : goal.invariant-loop-k
invariant-loop-k l = l.v ≡ view_below l.sheet.bytes l.k l.self
