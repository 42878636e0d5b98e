-- Steps without a party.
-- Assumes nothing.
use Rattle.std.specs.Prelude.{ℕ, Bool, not, ◌&&◌, ◌||◌, List, eqb, leb}
use Rattle.laws.specs.Gather.{every}
use Rattle.position.specs.Play.{FourBytes}

-- "a step of kinds 1 to 4 has X as its party"
unfoldable pub step_of : ℕ → FourBytes → Bool
step_of x b = (leb 1 b.kind && leb b.kind 4) && eqb b.party x

-- "To send means kind 3 or 4": of one of these transactions
unfoldable pub send_of : (ℕ → Bool) → FourBytes → Bool
send_of also b = (eqb b.kind 3 || eqb b.kind 4) && also b.transaction

-- "without X: no step of kinds 1 to 4 has X as its party"
unfoldable pub without : ℕ → List FourBytes → Bool
without x bs = every (λ b. not (step_of x b)) bs

-- X's steps are sends of these transactions
unfoldable pub sends_only : ℕ → (ℕ → Bool) → List FourBytes → Bool
sends_only x also bs = every (λ b. not (step_of x b) || send_of also b) bs
