-- A row of steps, by its first: it goes on, or it stops.
-- Assumes nothing.
use Rattle.laws.proofs.Prelude.{ℕ, ◌+◌, ◌≡◌, refl, true, false, List, [], ◌∷◌, eqb}
use Rattle.sheet.specs.Refusal.{accepted}
use Rattle.position.specs.declared.Position.{Position}
use Rattle.position.specs.Play.{FourBytes, step, run_from, play}

module _ (s u : List ℕ) where
  pub run_next : (b : FourBytes) (bs : List FourBytes) (c : ℕ) (p : Position) → eqb (step s u p b).refusal accepted ≡ true
      → run_from s u (b ∷ bs) c p ≡ run_from s u bs (c + 1) (step s u p b).position
  unfolding run_from
  run_next b bs c p h = rw (h, run_from)

  pub run_stops : (b : FourBytes) (bs : List FourBytes) (c : ℕ) (p : Position) → eqb (step s u p b).refusal accepted ≡ false
      → run_from s u (b ∷ bs) c p ≡ record { refusal = (step s u p b).refusal; accepted = c; position = p }
  unfolding run_from
  run_stops b bs c p h = rw (h, run_from)

  pub run_ends : (c : ℕ) (p : Position) → run_from s u [] c p ≡ record { refusal = accepted; accepted = c; position = p }
  unfolding run_from
  run_ends c p = refl

  -- a list of steps, refused ones too
  pub play_next : (b : FourBytes) (bs : List FourBytes) (p : Position) → play s u (b ∷ bs) p ≡ play s u bs (step s u p b).position
  unfolding play
  play_next b bs p = refl
