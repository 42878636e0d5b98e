-- Over an empty chain, no block and none mined, the soonest block is the earliest one.
-- Assumes nothing.
use Rattle.laws.proofs.Prelude.{ℕ, zero, suc, ◌+◌, ◌<◌, ◌≡◌, sym, ◌∙◌, true, false, List, ltb, eqb-true, ltb-true, ltb-false, lt-ltb, le-ltb, arith, max-eq_left}
use Rattle.laws.proofs.Prelude.{max-eq_right, split, climb_step}
use Rattle.position.proofs.Rules.{count, parent, opening, Checked, lock_from}
use Prim.Native.Nat.{max}
use native.Mathlib.Nat.{le-max_left}
use Rattle.slots.proofs.Parents.{parent_lower, parent_below}
use Rattle.call_blocks.proofs.Keeping.{lock_opening, lock_spend}
use Rattle.soonest.specs.Soonest.{greater, lock_at, soonest_over, soonest_block}
use Rattle.endings.specs.Earliest.{earliest_from, earliest}
use Rattle.claim_earliest.proofs.Lowest.{opening_lock, earliest_opening, earliest_spend, earliest_some}

greater_max : (a b : ℕ) → greater a b ≡ max a b
unfolding greater
greater_max a b =
    split (ltb a b)
    (λ y. let m = ltb-true a b y in rw y (sym (max-eq_right (omega arith))))
    (λ y. let m = ltb-false a b y in rw y (sym (max-eq_left (omega arith))))

-- over an empty chain, with the parent in block e
over_empty : (s : List ℕ) (d t e : ℕ) → soonest_over s d 0 0 t e ≡ max 1 (max e (lock_at s d e t + 1))
unfolding soonest_over
over_empty s d t e = rw (greater_max e (lock_at s d e t + 1), greater_max 1 (max e (lock_at s d e t + 1)))

module _ (s : List ℕ) (d : ℕ) (ok : Checked s) where
  abbrev soonest : ℕ → ℕ
  soonest = soonest_block s d (λ k. 0) 0

  at_opening : (t : ℕ) → t < count s → opening s t ≡ true → soonest t ≡ earliest s d t
  unfolding soonest_block opening earliest_from lock_at
  at_opening t l o =
      let e = eqb-true (parent s t) 255 o in
      let above : max 0 (lock_from s d 1 t + 1) ≡ lock_from s d 1 t + 1 = max-eq_right (omega arith) in
      climb_step (parent s) (λ k e. soonest_over s d 0 0 k e) 0 t
      ∙ rw (le-ltb (parent s t) t (omega (arith, ok.sized.few)))
      (over_empty s d t 0
      ∙ rw (lock_opening s d ok t l o, opening_lock s d ok t l 0 1 o, above) (sym (earliest_opening s d ok t l o)))

  at_spend : (t : ℕ) → t < count s → opening s t ≡ false → soonest (parent s t) ≡ earliest s d (parent s t) → soonest t ≡ earliest s d t
  unfolding soonest_block earliest_from lock_at
  at_spend t l o up =
      let some = earliest_some s d ok (parent s t) (parent_below ok t l o) in
      let e = earliest s d (parent s t) in
      climb_step (parent s) (λ k e. soonest_over s d 0 0 k e) 0 t
      ∙ rw (lt-ltb (parent s t) t (parent_lower ok t l o), up)
      (over_empty s d t e
      ∙ rw (lock_spend s d ok t e (omega (arith, some))) (max-eq_right (omega (arith, some, le-max_left e (lock_from s d e t + 1))) ∙ sym (earliest_spend s d ok t l o)))

  up_to : (n t : ℕ) → t < n → t < count s → soonest t ≡ earliest s d t
  up_to zero t h l = absurd (omega arith)
  up_to (suc n) t h l =
      split (opening s t)
      (at_opening t l)
      (λ o. at_spend t l o (up_to n (parent s t) (omega (arith, parent_lower ok t l o)) (parent_below ok t l o)))

  -- the soonest block over an empty chain
  pub empty_chain : (t : ℕ) → t < count s → soonest t ≡ earliest s d t
  empty_chain t l = up_to (suc t) t (omega arith) l
