-- None, or the steps on the transactions before t.
use Rattle.output.specs.Forms.Emitted.{emitted_at, opens_for}
use Rattle.laws.proofs.Prelude.{Turns}
use Rattle.output.proofs.open.write_below.Given as goal

abbrev pub invariant-loop-t : goal.invariant-loop-t
invariant-loop-t l =
    Turns (λ j. emitted_at (opens_for l.alice l.bob l.contract l.carol j) l.kind l.actor j) 32 l.initial.out l.out l.at l.t
