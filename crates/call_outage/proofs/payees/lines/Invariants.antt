-- The lines of the transactions before t.
use Rattle.laws.proofs.Prelude.{◌≡◌}
use Rattle.slots.specs.Forms.Line.{line_set}
use Rattle.soonest.specs.Forms.Table.{Filled}
use Rattle.call_outage.proofs.payees.lines.Given as goal

abbrev pub invariant-loop-t : goal.invariant-loop-t
invariant-loop-t l =
    Filled (λ k x. x ≡ line_set l.sheet.bytes k) l.t l.lines
