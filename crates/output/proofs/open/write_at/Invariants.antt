-- The steps of the destinations before d.
use Rattle.output.specs.Forms.Emitted.{emitted, opens}
use Rattle.laws.proofs.Prelude.{Turns, ℕ, Bool, List}
use Rattle.output.proofs.open.write_at.Given as goal

-- what turn d writes
abbrev pub turn : List Bool → ℕ → ℕ → ℕ → ℕ → List ℕ
turn on kind actor t d = emitted (opens on d) kind actor t d

abbrev pub invariant-loop-d : goal.invariant-loop-d
invariant-loop-d l =
    Turns (turn l.on l.kind l.actor l.t) 4 l.initial.out l.out l.at l.d
