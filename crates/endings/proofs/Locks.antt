-- The lock over a parent's block, and the earliest block over it.
-- Assumes nothing.
use Rattle.laws.proofs.Prelude.{ℕ, ◌+◌, ◌≤◌, ◌<◌, ◌≡◌, sym, ◌∙◌, List, eq-eqb, ne_eqb, lt-ltb, le-ltb, arith, max-eq_left, max-eq_right, climb_step}
use Rattle.position.proofs.Rules.{parent, lock_type, lock_blocks, lock_from}
use Rattle.endings.specs.Earliest.{earliest_from, earliest}

-- the returns of the code, where l is the lock's type, b its blocks
module _ (s : List ℕ) (per_day above t l : ℕ) (e : l ≡ lock_type s t) where
  pub lock_none : l ≡ 0 → 0 ≡ lock_from s per_day above t
  unfolding lock_from
  lock_none z = rw (eq-eqb (lock_type s t) 0 (sym e ∙ z))

  module _ (b : ℕ) (g : b ≡ lock_blocks s per_day t) (n : l ≡ 0 → ⊥) where
    pub lock_days : l ≡ 1 → b ≡ lock_from s per_day above t
    unfolding lock_from
    lock_days z = rw (ne_eqb (lock_type s t) 0 (λ y. n (e ∙ y)), eq-eqb (lock_type s t) 1 (sym e ∙ z)) g

    pub lock_since : (l ≡ 1 → ⊥) → above + b ≡ lock_from s per_day above t
    unfolding lock_from
    lock_since m = rw (ne_eqb (lock_type s t) 0 (λ y. n (e ∙ y)), ne_eqb (lock_type s t) 1 (λ y. m (e ∙ y)), g)

-- and of the block over it, where l is the lock
module _ (s : List ℕ) (per_day t above l : ℕ) (e : l ≡ lock_from s per_day above t) where
  pub from_lock : above < l + 1 → l + 1 ≡ earliest_from s per_day t above
  unfolding earliest_from
  from_lock h = rw (← e) (sym (max-eq_right (omega arith)))

  pub from_above : l + 1 ≤ above → above ≡ earliest_from s per_day t above
  unfolding earliest_from
  from_above h = rw (← e) (sym (max-eq_left h))

-- a step of the recursion, where u is the parent, a its block and r the answer over it
module _ (s : List ℕ) (per_day t u : ℕ) (e : u ≡ parent s t) where
  pub block_below : (a r : ℕ) → u < t → a ≡ earliest s per_day u → r ≡ earliest_from s per_day t a → r ≡ earliest s per_day t
  unfolding earliest
  block_below a r h f g =
      g ∙ sym (climb_step (parent s) (earliest_from s per_day) 1 t ∙ rw (← e, lt-ltb u t h, f))

  pub block_first : (r : ℕ) → t ≤ u → r ≡ earliest_from s per_day t 1 → r ≡ earliest s per_day t
  unfolding earliest
  block_first r h g = g ∙ sym (climb_step (parent s) (earliest_from s per_day) 1 t ∙ rw (← e, le-ltb u t h))
