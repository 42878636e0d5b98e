-- A number that stands for itself among tests: it passes where it is 0, and is the answer where it is not.
-- Assumes nothing.
use Rattle.laws.proofs.Prelude.{ℕ, ◌≡◌, sym, ◌∙◌, Bool, List, [], ◌∷◌, eqb, eqb-true, eqb-false, eq-eqb, ne_eqb, split, first_failing}
use Rattle.call_ask.specs.Ask.{own}

module _ (x : ℕ) (xs : List (ℕ × Bool)) where
  pub own_passes : x ≡ 0 → first_failing (own x ∷ xs) ≡ first_failing xs
  unfolding first_failing
  own_passes z = rw (eq-eqb x 0 z)

  pub own_fails : (x ≡ 0 → ⊥) → first_failing (own x ∷ xs) ≡ x
  unfolding first_failing
  own_fails h = rw (ne_eqb x 0 h)

  pub own_parts : first_failing (own x ∷ xs) ≡ 0 → (x ≡ 0) × (first_failing xs ≡ 0)
  own_parts h =
      split (eqb x 0)
      (λ e. let z = eqb-true x 0 e in (z, sym (own_passes z) ∙ h))
      (λ e. let z = eqb-false x 0 e in absurd (z (sym (own_fails z) ∙ h)))

-- the last one is the answer
pub own_last : (x : ℕ) → first_failing (own x ∷ []) ≡ x
unfolding first_failing
own_last x =
    split (eqb x 0)
    (λ e. let z = eqb-true x 0 e in own_passes x [] z ∙ sym z)
    (λ e. own_fails x [] (eqb-false x 0 e))
