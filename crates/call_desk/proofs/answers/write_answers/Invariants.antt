-- The answers of the swaps before i; the journal of swap i starts at `start`.
use Rattle.laws.proofs.Prelude.{◌*◌, ◌≡◌, Turns}
use Rattle.call_desk.specs.Bundle.{start_of}
use Rattle.call_desk.specs.Desk.{swap_bytes}
use Rattle.call_desk.proofs.answers.write_answers.Given as goal

abbrev pub invariant-loop-i : goal.invariant-loop-i
invariant-loop-i l =
    Turns (swap_bytes l.sheet l.bundle) l.n l.initial.out l.out (8 * l.i) l.i × (l.start ≡ start_of l.bundle l.i)
