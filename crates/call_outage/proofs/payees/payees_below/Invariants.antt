-- The payees of those below k.
use Rattle.laws.proofs.Prelude.{pick, bit, union_below, ◌≡◌, get_or}
use Rattle.position.proofs.Rules.{payees}
use Rattle.call_outage.proofs.payees.payees_below.Given as goal

abbrev pub invariant-loop-k : goal.invariant-loop-k
invariant-loop-k l =
    l.found ≡ union_below l.k (λ j. pick (bit (get_or l.lines j 0) l.t) (payees l.sheet.bytes j) 0)
