-- The greatest number up to a bound that passes, by what it is.
-- Assumes nothing.
use Rattle.laws.proofs.Prelude.{ℕ, zero, suc, ◌≤◌, ◌<◌, ◌≡◌, Bool, true, arith, eq-or-lt_of_le, split, either, clash}
use Rattle.laws.specs.Greatest.{greatest_to}

module _ (f : ℕ → Bool) (d : ℕ) where
  -- where there is one, it passes
  pub greatest_passes : (n : ℕ) → (greatest_to n f d ≡ d → ⊥) → (greatest_to n f d ≤ n) × (f (greatest_to n f d) ≡ true)
  unfolding greatest_to
  greatest_passes zero some =
      split (f 0)
      (λ y. rw y (omega arith, y))
      (λ y. absurd (some (rw y)))
  greatest_passes (suc n) some =
      split (f (suc n))
      (λ y. rw y (omega arith, y))
      (λ y. let w = greatest_passes n (rw y at some) in rw y (omega (arith, w.0), w.1))

  -- and each that passes is no greater
  pub greatest_most : (n : ℕ) → n < d → (k : ℕ) → k ≤ n → f k ≡ true → (greatest_to n f d ≡ d → ⊥) × (k ≤ greatest_to n f d)
  unfolding greatest_to
  greatest_most zero few k l h =
      let z : k ≡ 0 = omega (arith, l) in
      rw (rw z at h) ((λ e. omega (arith, e, few)), l)
  greatest_most (suc n) few k l h =
      split (f (suc n))
      (λ y. rw y ((λ e. omega (arith, e, few)), l))
      (λ y.
      either (eq-or-lt_of_le l)
      (λ e. clash (rw e at h) y)
      (λ m. rw y (greatest_most n (omega (arith, few)) k (omega (arith, m)) h)))
