-- The steps of the kinds before k + 1.
use Rattle.output.specs.Forms.Emitted.{kind_bytes}
use Rattle.laws.proofs.Prelude.{Turns}
use Rattle.output.proofs.open.write_open.Given as goal

abbrev pub invariant-loop-k : goal.invariant-loop-k
invariant-loop-k l =
    Turns (kind_bytes l.below l.last l.actor) 7 l.initial.out l.out l.at l.k
