-- Parents on a checked sheet: what is no opening has a lower number for its parent, which is a transaction too.
-- Assumes nothing.
use Rattle.laws.proofs.Prelude.{ℕ, ◌≤◌, ◌<◌, ◌≡◌, false, List, eqb-true, ne_eqb, arith, either, clash}
use Rattle.sheet.specs.Field.{count, parent, opening}
use Rattle.sheet.specs.Checked.{Checked}

-- what has a transaction for its parent is no opening
pub child_spends : {s : List ℕ} → Checked s → (t : ℕ) → parent s t < count s → opening s t ≡ false
unfolding opening
child_spends {s} ok t h = ne_eqb (parent s t) 255 (λ e. omega (arith, ok.sized.few))

module _ {s : List ℕ} (ok : Checked s) (t : ℕ) (l : t < count s) where
  pub parent_lower : opening s t ≡ false → parent s t < t
  parent_lower o = either (ok.entries t l).parent_lower (λ y. clash y o) (λ h. h)

  pub parent_below : opening s t ≡ false → parent s t < count s
  parent_below o = let h = parent_lower o in omega arith

  pub parent_none : 32 ≤ parent s t → parent s t ≡ 255
  unfolding opening
  parent_none h =
      either (ok.entries t l).parent_lower (eqb-true (parent s t) 255) (λ a. absurd (omega (arith, h, a, l, ok.sized.few)))

  pub parent_has : parent s t < t → opening s t ≡ false
  parent_has h = child_spends ok t (omega arith)
