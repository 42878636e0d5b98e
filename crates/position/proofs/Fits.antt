-- What a setup that passes for a sheet tells of the sheet.
-- Assumes nothing.
use Rattle.laws.proofs.Prelude.{ℕ, ◌≡◌, ap, ◌∙◌, false, List, eqb-false, arith}
use Rattle.sheet.specs.Field.{count}
use Rattle.sheet.specs.Setup.{per_day, conduct}
use Rattle.sheet.specs.Checked.{SetupChecked}
use Rattle.sheet.proofs.Theorems.{saswap_sizes}
use Rattle.position.specs.Conduct.{is_open}

not_open : (u : List ℕ) → is_open u ≡ false → conduct u ≡ 0 → ⊥
unfolding is_open
not_open u h = eqb-false (conduct u) 0 h

-- "Conduct 1 and 2 take only the SASwap sheet"
pub named : {s u : List ℕ} → SetupChecked s u → is_open u ≡ false → count s ≡ 15
named {s} {u} setup o = let z = not_open u o in ap count (setup.sheet_fits (omega (arith, z))) ∙ (saswap_sizes (per_day u)).0
