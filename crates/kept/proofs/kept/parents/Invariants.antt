-- Of those below c.
use Rattle.laws.specs.Booleans.{pick}
use Rattle.laws.specs.Mask.{bit, union_below}
use Rattle.laws.proofs.Prelude.{◌≡◌, get_or}
use Rattle.kept.proofs.kept.parents.Given as goal

abbrev pub invariant-loop-c : goal.invariant-loop-c
invariant-loop-c l =
    l.found ≡ union_below l.c (λ k. pick (bit l.good k) (get_or l.up k 0) 0)
