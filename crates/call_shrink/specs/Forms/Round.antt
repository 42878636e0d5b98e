-- A round as the code makes it: each step is tried from the position before it.
-- Assumes nothing.
use Rattle.std.specs.Prelude.{ℕ, ◌*◌, ◌≡◌, Bool, false, not, ◌&&◌, Option, None, Some, List, [], ◌∷◌, ◌++◌, eqb, ltb, length, take}
use Rattle.laws.specs.Booleans.{pick}
use Rattle.position.specs.declared.Position.{Position}
use Rattle.position.specs.Play.{FourBytes, journal_steps, journal_bytes, step, run_from}
use Rattle.position.specs.Answers.{Written, fitted}
use Rattle.call_shrink.specs.declared.round.Lost.{Lost}
use Rattle.call_shrink.specs.Shrink.{still_refused, shrunk}

-- the step before these can go, tried from the position before it
unfoldable pub goes_at : List ℕ → List ℕ → ℕ → Position → List FourBytes → Bool
goes_at s u number p after = ltb 0 (length after) && still_refused s u number p after

-- the same four bytes
unfoldable pub same_step : FourBytes → FourBytes → Bool
same_step a b = eqb a.kind b.kind && (eqb a.party b.party && (eqb a.transaction b.transaction && eqb a.destination b.destination))

-- the same, but that a step which stays in any case is not tried
unfoldable pub tried_at : List ℕ → List ℕ → ℕ → Bool → Position → List FourBytes → Bool
tried_at s u number stay p after = pick stay false (goes_at s u number p after)

-- with these steps a row that is lost comes to the position `here`
pub record Meets (s u : List ℕ) (lost : Option Lost) (here : Position) (passed : List FourBytes) : Type 0 where
  pub row : Lost
  pub held : lost ≡ Some row
  pub accepted : (run_from s u passed 0 row.position).refusal ≡ 0
  pub there : (run_from s u passed 0 row.position).position ≡ here

-- the number of its first step, 0 where there is none
abbrev pub lost_from : Option Lost → ℕ
lost_from None = 0
lost_from (Some row) = row.from

-- the row that is lost after a step was tried from `here`, where `from` is the number of the next: one without the last block that could not go
unfoldable pub lost_after : Option Lost → Bool → ℕ → Position → ℕ → Option Lost
lost_after lost goes kind here from = pick (not goes && eqb kind 6) (Some (record { from = from; position = here })) lost

-- a step that goes is not kept, and is not played
unfoldable pub kept_step : Bool → FourBytes → List FourBytes
kept_step goes b = pick goes [] (b ∷ [])

unfoldable pub position_past : List ℕ → List ℕ → Bool → Position → FourBytes → Position
position_past s u goes p b = pick goes p (step s u p b).position

-- what is kept of a row, from a position on
unfoldable pub round_at : List ℕ → List ℕ → ℕ → Position → List FourBytes → List FourBytes
round_at s u number p [] = []
round_at s u number p (b ∷ after) =
    let goes = goes_at s u number p after in
    kept_step goes b ++ round_at s u number (position_past s u goes p b) after

-- the bytes start with this row of r steps
pub record Starts (row : List FourBytes) (bytes : List ℕ) (r : ℕ) : Type 0 where
  pub count : r ≡ length row
  pub front : take (4 * r) bytes ≡ journal_bytes row

-- the part that is left, where the buffer has room for it
abbrev pub shrunk_fitted : List ℕ → List ℕ → ℕ → List ℕ → List ℕ → Written
shrunk_fitted s u number row out = fitted (journal_bytes (shrunk s u number (journal_steps row))) (length (shrunk s u number (journal_steps row))) out
