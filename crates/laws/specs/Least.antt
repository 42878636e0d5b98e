-- The least of some numbers below a bound.
-- Assumes nothing.
use Prim.Native.Nat.{ℕ, zero, suc, ◌+◌, ◌≤◌, ◌<◌, min}
use Rattle.std.proofs.Common.{le_antisymm, le_of_lt, eq-or-lt_of_le, le_of_suc-le-suc, not-suc-le-zero, add-one, ◌∙◌, leb-true, leb-false}
use Rattle.std.proofs.Math.Nat.{le-min, min-le_left, min-le_right, min-eq_left, min-eq_right}
use native.Mathlib.Omega.{arith}
use Rattle.std.specs.Prelude.{◌≡◌, Bool, false, leb}
use Rattle.std.proofs.Math.Path.{refl, sym}
use Rattle.std.proofs.Math.Bool.{true}
use Rattle.laws.specs.Booleans.{pick, split, either}

-- the least f k, over the k below n that pass p; d where none does
unfoldable pub least_below : ℕ → (ℕ → Bool) → (ℕ → ℕ) → ℕ → ℕ
least_below zero p f d = d
least_below (suc n) p f d = min (least_below n p f d) (pick (p n) (f n) d)

-- a loop that looks for the least: its start, a turn, its end
pub least_start : (p : ℕ → Bool) (f : ℕ → ℕ) (d : ℕ) → d ≡ least_below 0 p f d
unfolding least_below
least_start p f d = refl

pub least_more : (n : ℕ) (p : ℕ → Bool) (f : ℕ → ℕ) (d b h r : ℕ) → b ≡ least_below n p f d → h ≡ pick (p n) (f n) d → r ≡ min b h → r ≡ least_below (n + 1) p f d
unfolding least_below
least_more n p f d b h r e g m = rw (add-one, m, e, g)

pub least_done : (k n : ℕ) (p : ℕ → Bool) (f : ℕ → ℕ) (d b : ℕ) → k ≤ n → n ≤ k → b ≡ least_below k p f d → b ≡ least_below n p f d
least_done k n p f d b l m e = rw (le_antisymm m l) e

-- the same of what is looked at
pub least_same : (n : ℕ) (p q : ℕ → Bool) (f g : ℕ → ℕ) (d : ℕ) → ((k : ℕ) → k < n → pick (p k) (f k) d ≡ pick (q k) (g k) d) → least_below n p f d ≡ least_below n q g d
unfolding least_below
least_same zero p q f g d h = refl
least_same (suc n) p q f g d h = rw (least_same n p q f g d (λ k l. h k (omega arith)), h n (omega arith))

module _ (p : ℕ → Bool) (f : ℕ → ℕ) (d : ℕ) where
  -- it is no more than d, and no more than any of them
  pub least_top : (n : ℕ) → least_below n p f d ≤ d
  unfolding least_below
  least_top zero = omega arith
  least_top (suc n) = omega (arith, least_top n, min-le_left (least_below n p f d) (pick (p n) (f n) d))

  pub least_le : (n k : ℕ) → k < n → p k ≡ true → least_below n p f d ≤ f k
  unfolding least_below
  least_le zero k h e = absurd (not-suc-le-zero h)
  least_le (suc n) k h e =
      either (eq-or-lt_of_le (le_of_suc-le-suc h))
      (λ q. let y : p n ≡ true = rw q at e in rw (q, y) (min-le_right (least_below n p f d) (f n)))
      (λ l. omega (arith, least_le n k l e, min-le_left (least_below n p f d) (pick (p n) (f n) d)))

  chosen : (x : ℕ) (b : Bool) (y : ℕ) → x ≤ d → (b ≡ true → x ≤ y) → x ≤ pick b y d
  chosen x true y h k = k refl
  chosen x false y h k = h

  -- and no number that is no more than d and all of them is above it
  pub least_from : (x n : ℕ) → x ≤ d → ((k : ℕ) → k < n → p k ≡ true → x ≤ f k) → x ≤ least_below n p f d
  unfolding least_below
  least_from x zero h g = h
  least_from x (suc n) h g =
      le-min (least_from x n h (λ k l e. g k (omega arith) e)) (chosen x (p n) (f n) h (λ e. g n (omega arith) e))

  -- where it is below d, it is reached
  pub least_reached : (n : ℕ) → least_below n p f d < d → (k : ℕ) × (k < n) × (p k ≡ true) × (f k ≡ least_below n p f d)
  unfolding least_below
  least_reached zero h = absurd (omega arith)
  least_reached (suc n) h =
      let a = least_below n p f d in
      split (leb a (pick (p n) (f n) d))
      (λ y.
      let e = min-eq_left (leb-true a (pick (p n) (f n) d) y) in
      let w = least_reached n (rw e at h) in
      (w.0, omega (arith, w.1), w.2, w.3 ∙ sym e))
      (λ y.
      let e = min-eq_right (le_of_lt (leb-false a (pick (p n) (f n) d) y)) in
      split (p n)
      (λ z. (n, omega arith, z, sym (e ∙ rw z)))
      (λ z. let v : pick (p n) (f n) d ≡ d = rw z in absurd (omega (arith, v, e, h))))

  -- those that do not pass alter nothing
  pub least_upto : (k n : ℕ) → k ≤ n → ((j : ℕ) → k ≤ j → j < n → p j ≡ false) → least_below n p f d ≡ least_below k p f d
  unfolding least_below
  least_upto k zero l h = rw (le_antisymm l (omega arith)) refl
  least_upto k (suc n) l h =
      either (eq-or-lt_of_le l)
      (λ e. rw e refl)
      (λ m. rw (h n (le_of_suc-le-suc m) (omega arith), least_upto k n (le_of_suc-le-suc m) (λ j a b. h j a (omega arith))) (min-eq_left (least_top k)))
