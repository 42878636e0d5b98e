-- The greatest number up to a bound that passes a test, and the search for it by halves, where the test falls up to the bound: with a number each
-- lower one passes.
-- Assumes nothing.
use Prim.Native.Nat.{ℕ, zero, suc, ◌+◌, ◌≤◌, ◌<◌}
use Rattle.std.proofs.Common.{eq-or-lt_of_le, le_of_suc-le-suc}
use native.Mathlib.Omega.{arith}
use Rattle.std.specs.Prelude.{◌≡◌, Bool, false}
use Rattle.std.proofs.Math.Bool.{true}
use Rattle.laws.specs.Booleans.{pick, either, clash, fails_by}

-- the greatest number up to n that passes p; d where none does
unfoldable pub greatest_to : ℕ → (ℕ → Bool) → ℕ → ℕ
greatest_to zero p d = pick (p 0) 0 d
greatest_to (suc n) p d = pick (p (suc n)) (suc n) (greatest_to n p d)

module _ (p : ℕ → Bool) (d : ℕ) where
  none_up : (n : ℕ) → ((k : ℕ) → k ≤ n → p k ≡ false) → greatest_to n p d ≡ d
  unfolding greatest_to
  none_up zero h = rw (h 0 (omega arith))
  none_up (suc n) h = rw (h (suc n) (omega arith)) (none_up n (λ k l. h k (omega arith)))

  last_up : (n a : ℕ) → a ≤ n → p a ≡ true → ((k : ℕ) → a < k → k ≤ n → p k ≡ false) → greatest_to n p d ≡ a
  unfolding greatest_to
  last_up zero a l e h = let z : a ≡ 0 = omega arith in let y : p 0 ≡ true = rw z at e in rw (y, z)
  last_up (suc n) a l e h =
      either (eq-or-lt_of_le l)
      (λ z. let y : p (suc n) ≡ true = rw z at e in rw (y, z))
      (λ m. rw (h (suc n) m (omega arith)) (last_up n a (le_of_suc-le-suc m) e (λ k i j. h k i (omega arith))))

-- the greatest is from a on, and below b
pub record Bracket (n : ℕ) (p : ℕ → Bool) (a b : ℕ) : Type 0 where
  pub apart : a < b
  pub high : b ≤ n + 1
  pub passes : p a ≡ true
  pub fails : (k : ℕ) → b ≤ k → k ≤ n → p k ≡ false

-- a search by halves: its start, its turns, its end
module _ (n : ℕ) (p : ℕ → Bool) where
  pub halves_start : p 0 ≡ true → Bracket n p 0 (n + 1)
  halves_start h = record { apart = omega arith; high = omega arith; passes = h; fails = λ k l m. absurd (omega (arith, l, m)) }

  pub halves_up : (a b c : ℕ) → Bracket n p a b → c < b → p c ≡ true → Bracket n p c b
  halves_up a b c w l e = record { apart = l; high = w.high; passes = e; fails = w.fails }

  pub halves_done : (a b d : ℕ) → Bracket n p a b → b ≤ a + 1 → greatest_to n p d ≡ a
  halves_done a b d w l =
      last_up p d n a (omega (arith, w.apart, w.high)) w.passes (λ k i j. w.fails k (omega (arith, i, l)) j)

  module _ (falls : (k : ℕ) → k < n → p (suc k) ≡ true → p k ≡ true) where
    fails_on : (a k : ℕ) → a ≤ k → k ≤ n → p a ≡ false → p k ≡ false
    fails_on a zero l m e = let z : a ≡ 0 = omega arith in rw z at e
    fails_on a (suc k) l m e =
        either (eq-or-lt_of_le l)
        (λ z. rw z at e)
        (λ i. fails_by (p (suc k)) (λ y. clash (falls k m y) (fails_on a k (le_of_suc-le-suc i) (omega arith) e)))

    pub halves_none : (d : ℕ) → p 0 ≡ false → greatest_to n p d ≡ d
    halves_none d h = none_up p d n (λ k l. fails_on 0 k (omega arith) l h)

    pub halves_down : (a b c : ℕ) → Bracket n p a b → a < c → c < b → p c ≡ false → Bracket n p a c
    halves_down a b c w l m e =
        record { apart = l; high = omega (arith, m, w.high); passes = w.passes; fails = λ k i j. fails_on c k i j e }

-- two tests that agree up to n
pub greatest_same : (n : ℕ) (p q : ℕ → Bool) (d : ℕ) → ((k : ℕ) → k ≤ n → p k ≡ q k) → greatest_to n p d ≡ greatest_to n q d
unfolding greatest_to
greatest_same zero p q d h = rw (h 0 (omega arith))
greatest_same (suc n) p q d h = rw (h (suc n) (omega arith), greatest_same n p q d (λ k l. h k (omega arith)))
