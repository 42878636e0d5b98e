-- The soonest block of what is confirmed and of what is not, and that of a parent.
-- Assumes nothing.
use Rattle.laws.proofs.Prelude.{ℕ, ◌+◌, ◌≤◌, ◌<◌, ◌≡◌, ◌∙◌, true, false, List, ltb, ltb-true, ltb-false, lt-ltb, le-ltb, arith, split, clash}
use Rattle.position.proofs.Rules.{count, parent, opening, Checked}
use Rattle.slots.proofs.Parents.{parent_lower, parent_has}
use Rattle.soonest.specs.Soonest.{greater, lock_at, soonest_over, soonest_block, soonest_parent}
use Rattle.soonest.proofs.Recursion.{soonest_is}
use Rattle.soonest.proofs.Bounds.{greater_left}

module _ (s : List ℕ) (per_day : ℕ) (block : ℕ → ℕ) (mined : ℕ) where
  -- of a confirmed transaction, and of any other
  pub soonest_there : (t : ℕ) → 0 < block t → soonest_block s per_day block mined t ≡ block t
  unfolding soonest_over
  soonest_there t h = soonest_is s per_day block mined t ∙ rw (lt-ltb 0 (block t) h)

  pub soonest_open : (t : ℕ) → block t ≡ 0
      → soonest_block s per_day block mined t
      ≡ greater (mined + 1) (greater (soonest_parent s per_day block mined t) (lock_at s per_day (soonest_parent s per_day block mined t) t + 1))
  unfolding soonest_over
  soonest_open t h = soonest_is s per_day block mined t ∙ rw (le-ltb 0 (block t) (omega arith))

  pub soonest_some : (t : ℕ) → 0 < soonest_block s per_day block mined t
  soonest_some t =
      split (ltb 0 (block t))
      (λ y. let h = ltb-true 0 (block t) y in rw (soonest_there t h) h)
      (λ y.
      let e = soonest_parent s per_day block mined t in
      let g = greater_left (mined + 1) (greater e (lock_at s per_day e t + 1)) in
      rw (soonest_open t (omega (arith, ltb-false 0 (block t) y))) (omega arith))

  pub parent_soonest : (t : ℕ) → parent s t < t → soonest_parent s per_day block mined t ≡ soonest_block s per_day block mined (parent s t)
  unfolding soonest_parent
  parent_soonest t h = rw (lt-ltb (parent s t) t h)

  pub parent_none : (t : ℕ) → t ≤ parent s t → soonest_parent s per_day block mined t ≡ 0
  unfolding soonest_parent
  parent_none t h = rw (le-ltb (parent s t) t h)

module _ {s : List ℕ} (ok : Checked s) (per_day : ℕ) where
  pub opening_none : (block : ℕ → ℕ) (mined t : ℕ) → t < count s → opening s t ≡ true → soonest_parent s per_day block mined t ≡ 0
  opening_none block mined t l o =
      split (ltb (parent s t) t)
      (λ y. clash o (parent_has ok t l (ltb-true (parent s t) t y)))
      (λ y. parent_none s per_day block mined t (ltb-false (parent s t) t y))

  -- the parent's soonest block where it is confirmed
  pub parent_there : (block : ℕ → ℕ) (mined t : ℕ) → t < count s → opening s t ≡ false → 0 < block (parent s t) → soonest_parent s per_day block mined t ≡ block (parent s t)
  parent_there block mined t l o c = parent_soonest s per_day block mined t (parent_lower ok t l o) ∙ soonest_there s per_day block mined (parent s t) c

  pub parent_some : (block : ℕ → ℕ) (mined t : ℕ) → t < count s → opening s t ≡ false → 0 < soonest_parent s per_day block mined t
  parent_some block mined t l o = rw (parent_soonest s per_day block mined t (parent_lower ok t l o)) (soonest_some s per_day block mined (parent s t))
