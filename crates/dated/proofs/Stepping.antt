-- A step on a position with its counts, accepted or refused; a row of steps by its first.
-- Assumes nothing.
use Rattle.laws.proofs.Prelude.{ℕ, ◌+◌, ◌≡◌, refl, true, false, List, [], ◌∷◌, eqb}
use Rattle.position.proofs.Rules.{accepted, FourBytes, step}
use Rattle.dated.specs.declared.Dated.{Dated}
use Rattle.dated.specs.Dated.{noted, dated_step, dated_run_from}

module _ (s u : List ℕ) (d : Dated) (b : FourBytes) where
  pub step_taken : eqb (step s u d.position b).refusal accepted ≡ true
      → dated_step s u d b ≡ record { refusal = accepted; dated = record { position = (step s u d.position b).position; opened = noted s u (step s u d.position b).position d.opened } }
  unfolding dated_step
  step_taken h = rw (h, dated_step)

  pub step_refused : eqb (step s u d.position b).refusal accepted ≡ false → dated_step s u d b ≡ record { refusal = (step s u d.position b).refusal; dated = d }
  unfolding dated_step
  step_refused h = rw (h, dated_step)

-- a row of steps, by its first
module _ (s u : List ℕ) where
  pub run_next : (b : FourBytes) (bs : List FourBytes) (c : ℕ) (d : Dated) → eqb (dated_step s u d b).refusal accepted ≡ true
      → dated_run_from s u (b ∷ bs) c d ≡ dated_run_from s u bs (c + 1) (dated_step s u d b).dated
  unfolding dated_run_from
  run_next b bs c d h = rw (h, dated_run_from)

  pub run_stops : (b : FourBytes) (bs : List FourBytes) (c : ℕ) (d : Dated) → eqb (dated_step s u d b).refusal accepted ≡ false
      → dated_run_from s u (b ∷ bs) c d ≡ record { refusal = (dated_step s u d b).refusal; accepted = c; dated = d }
  unfolding dated_run_from
  run_stops b bs c d h = rw (h, dated_run_from)

  pub run_ends : (c : ℕ) (d : Dated) → dated_run_from s u [] c d ≡ record { refusal = accepted; accepted = c; dated = d }
  unfolding dated_run_from
  run_ends c d = refl
