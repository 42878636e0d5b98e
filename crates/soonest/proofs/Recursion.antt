-- The recursion of the soonest block without its bound.
-- Assumes nothing.
use Rattle.laws.proofs.Prelude.{ℕ, ◌≡◌, List, climb_step}
use Rattle.position.proofs.Rules.{parent}
use Rattle.soonest.specs.Soonest.{soonest_over, soonest_block, soonest_parent}

pub soonest_is : (s : List ℕ) (per_day : ℕ) (block : ℕ → ℕ) (mined t : ℕ)
    → soonest_block s per_day block mined t ≡ soonest_over s per_day (block t) mined t (soonest_parent s per_day block mined t)
unfolding soonest_block soonest_parent
soonest_is s per_day block mined t = climb_step (parent s) (λ k e. soonest_over s per_day (block k) mined k e) 0 t
