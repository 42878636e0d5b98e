-- A test that some number of a range passes, where none below the range does.
-- Assumes nothing.
use Rattle.std.specs.List.{list_any, range_with_len}
use Rattle.laws.proofs.Prelude.{ℕ, zero, suc, ◌+◌, ◌-◌, ◌≤◌, ◌<◌, ◌≡◌, sym, ap, ◌∙◌, Bool, false, any_below, any_more, any_found, any_none, any_all_false, ltb, ltb-true, ltb-false, add-zero, arith, split}

module _ (p q : ℕ → Bool) where
  any_run : (m a : ℕ) → any_below a p ≡ false → ((k : ℕ) → a ≤ k → k < a + m → q k ≡ p k) → list_any q (range_with_len a m) ≡ any_below (a + m) p
  any_run zero a h f = rw (add-zero a) (sym h)
  any_run (suc m) a h f =
      let here = f a (omega arith) (omega arith) in
      split (p a)
      (λ y. rw (here ∙ y) (sym (any_found (a + suc m) a p (omega arith) y)))
      (λ y. rw (here ∙ y) (any_run m (a + 1) (any_more a p h y) (λ k i j. f k (omega (arith, i)) (omega (arith, j))) ∙ ap (λ n. any_below n p) (omega arith)))

  -- from a on: where q is p there, and p passes none below a
  pub any_above : (a n : ℕ) → any_below a p ≡ false → ((k : ℕ) → a ≤ k → k < n → q k ≡ p k) → list_any q (range_with_len a (n - a)) ≡ any_below n p
  any_above a n h f =
      any_run (n - a) a h (λ k i j. f k i (omega (arith, i, j)))
      ∙ split (ltb n a)
      (λ y.
      let l = ltb-true n a y in
      let e : a + (n - a) ≡ a = omega (arith, l) in
      rw e (h ∙ sym (any_all_false n p (λ k i. any_none a p h k (omega (arith, i, l))))))
      (λ y. ap (λ j. any_below j p) (omega (arith, ltb-false n a y)))
