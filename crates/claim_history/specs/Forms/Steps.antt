-- One more step of a list: what is accepted, and what is played.
-- Assumes nothing.
use Rattle.std.specs.Prelude.{ℕ, ◌+◌, List, [], ◌∷◌, eqb}
use Rattle.laws.specs.Booleans.{pick}
use Rattle.sheet.specs.Refusal.{accepted}
use Rattle.position.specs.Play.{FourBytes, step}
use Rattle.claim_history.specs.declared.play.Played.{Played}

-- a step whose refusal is 0, else none
unfoldable pub taken : ℕ → FourBytes → List FourBytes
taken refusal b = pick (eqb refusal accepted) (b ∷ []) []

-- one more step played: the position it hands back, and one more accepted if it was
unfoldable pub played_one : List ℕ → List ℕ → Played → FourBytes → Played
played_one s u x b =
    let r = step s u x.position b in
    record { position = r.position; accepted = x.accepted + pick (eqb r.refusal accepted) 1 0 }
