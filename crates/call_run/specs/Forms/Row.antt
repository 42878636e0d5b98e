-- A row of steps as the loop plays it: position, counts and view together.
-- Assumes nothing.
use Rattle.std.specs.Prelude.{ℕ, ◌+◌, Bool, true, false, List, [], ◌∷◌, eqb}
use Rattle.laws.specs.Booleans.{pick}
use Rattle.sheet.specs.Refusal.{accepted}
use Rattle.sheet.specs.Field.{count}
use Rattle.position.specs.declared.Position.{Position}
use Rattle.position.specs.Play.{FourBytes, step}
use Rattle.position.specs.Forms.View.{view_below}
use Rattle.dated.specs.Dated.{noted}
use Rattle.call_run.specs.declared.row.RowRan.{RowRan}

-- the counts once p is seen, where they are asked for
unfoldable pub noted_if : Bool → List ℕ → List ℕ → Position → List ℕ → List ℕ
noted_if asked s u p counts = pick asked (noted s u p counts) counts

-- stopped with this number after c accepted steps: the view is that of the position
unfoldable pub stopped_at : List ℕ → ℕ → ℕ → Position → List ℕ → RowRan
stopped_at s number c p counts = record { refusal = number; accepted = c; position = p; opened = counts; view = view_below s (count s) p }

-- the steps of a row up to the first refused one, after c accepted ones
unfoldable pub run_row : Bool → List ℕ → List ℕ → List FourBytes → ℕ → Position → List ℕ → RowRan
run_row asked s u [] c p counts = stopped_at s accepted c p counts
run_row asked s u (b ∷ bs) c p counts =
    let r = step s u p b in
    elim (eqb r.refusal accepted) [
      | true ↦ run_row asked s u bs (c + 1) r.position (noted_if asked s u r.position counts)
      | false ↦ stopped_at s r.refusal c p counts
    ]
