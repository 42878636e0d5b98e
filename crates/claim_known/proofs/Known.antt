-- Every row of the table holds.
-- Assumes nothing.
use Rattle.std.specs.Prelude.{ℕ, ◌<◌, ◌≡◌, refl, true, List, [], ◌∷◌, map, length, get_or}
use Rattle.laws.specs.Gather.{every, every_at}
use Rattle.claim_known.specs.Case.{Case, sheet_length, holds}
use Rattle.claim_known.specs.Known.{Row, rows}

-- its rows alone
unfoldable pub known : List Case
known = map (λ r. r.case) rows

rows_hold : (rs : List Row) → every holds (map (λ r. r.case) rs) ≡ true
unfolding every
rows_hold [] = refl
rows_hold (r ∷ rs) = rw (r.right, rows_hold rs)

-- every row holds
pub all_hold : every holds known ≡ true
unfolding known
all_hold = rows_hold rows

-- the row at each place holds
pub holds_at : (i : ℕ) → i < length known → holds (get_or known i (sheet_length 3 95)) ≡ true
holds_at i h = every_at holds known (sheet_length 3 95) all_hold i h
