-- The lowest number that passes, and what X counts on by it.
-- Assumes nothing.
use Rattle.laws.proofs.Prelude.{ℕ, zero, suc, ◌≤◌, ◌<◌, ◌≡◌, refl, sym, ap, ◌∙◌, Bool, true, false, ltb, ltb-true, ltb-false, eq-eqb, ne_eqb, arith}
use native.Mathlib.Nat.{le_antisymm}
use Rattle.laws.specs.Booleans.{pick, split, clash}
use Rattle.std.specs.declared.option.Option.{Option}
use Rattle.std.specs.Prelude.{None, Some}
use Rattle.std.specs.Option.{MatchOption}
use Rattle.laws.specs.Below.{any_below, any_none, any_all_false}
use Rattle.laws.specs.Least.{least_below, least_top, least_le, least_from}
use Rattle.kept.specs.declared.Prospect.{Prospect}
use Rattle.kept.specs.Forms.Evaluation.{reached_in, sure_in, lowest_in, counted_in}

module _ (p : ℕ → Bool) where
  -- none below t passes, and t does
  lowest_found : (n t d : ℕ) → t < n → n ≤ d → p t ≡ true → any_below t p ≡ false → t ≡ least_below n p (λ k. k) d
  lowest_found n t d l m e h =
      le_antisymm
      (least_from p (λ k. k) d t n (omega arith)
      (λ k i y. split (ltb k t) (λ z. clash y (any_none t p h k (ltb-true k t z))) (λ z. ltb-false k t z)))
      (least_le p (λ k. k) d n t l e)

  -- none passes
  lowest_none : (n d : ℕ) → any_below n p ≡ false → d ≡ least_below n p (λ k. k) d
  lowest_none n d h =
      le_antisymm (least_from p (λ k. k) d d n (omega arith) (λ k i y. clash y (any_none n p h k i))) (least_top p (λ k. k) d n)

  -- the first that passes, if one does, and what is made of it
  pub lowest_first : (n d v : ℕ) (r : Option ℕ) → n ≤ d
      → MatchOption r ((k : ℕ) → 0 ≤ k → k < n → p k ≡ false) (λ i. (0 ≤ i) × (i < n) × (p i ≡ true) × ((k : ℕ) → 0 ≤ k → k < i → p k ≡ false))
      → MatchOption r (v ≡ d) (λ i. v ≡ i) → v ≡ least_below n p (λ k. k) d
  lowest_first n d v None l h e = e ∙ lowest_none n d (any_all_false n p (λ k i. h k (omega arith) i))
  lowest_first n d v (Some i) l h e = e ∙ lowest_found n i d h.1 l h.2 (any_all_false i p (λ k j. h.3 k (omega arith) j))

-- two tests that agree below n
pub least_same : (n : ℕ) (p q : ℕ → Bool) (f : ℕ → ℕ) (d : ℕ) → ((k : ℕ) → k < n → p k ≡ q k) → least_below n p f d ≡ least_below n q f d
unfolding least_below
least_same zero p q f d h = refl
least_same (suc n) p q f d h = rw (least_same n p q f d (λ k l. h k (omega arith)), h n (omega arith))

module _ (q : Prospect) (off found safe t : ℕ) (unpaid : q.paid ≡ false) (is : found ≡ reached_in q off) (sure : safe ≡ sure_in q.beat q.count found off)
    (low : t ≡ lowest_in q.count safe) where
  low_is : lowest_in q.count (sure_in q.beat q.count (reached_in q off) off) ≡ t
  low_is = sym (low ∙ ap (lowest_in q.count) (sure ∙ ap (λ (m : ℕ). sure_in q.beat q.count m off) is))

  -- one that nothing beats
  pub counted_sure : (t ≡ 255 → ⊥) → t ≡ counted_in q off
  unfolding counted_in
  counted_sure n = rw (low_is, ne_eqb t 255 n) (ap (λ (b : Bool). pick b 255 t) (sym unpaid))

  -- none such
  pub counted_low : (r : ℕ) → t ≡ 255 → r ≡ lowest_in q.count found → r ≡ counted_in q off
  unfolding counted_in
  counted_low r e h =
      rw (low_is, eq-eqb t 255 e, ← is, ← h) (ap (λ (b : Bool). pick b 255 r) (sym unpaid))
