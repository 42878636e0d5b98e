-- The digits from the last one on, then their column.
use Rattle.call_page.proofs.Digits.{Made}
use Rattle.call_page.proofs.line.write_number.Given as goal

abbrev pub invariant-loop-rest : goal.invariant-loop-rest
invariant-loop-rest l =
    Made l.x l.made l.at l.rest

abbrev pub decreases-loop-rest : goal.decreases-loop-rest
decreases-loop-rest l =
    l.rest
